-- Lists of images, and the first element that passes a test.
use Rattle.std.proofs.Common.{◌≡◌, ◌≢◌, ℕ, zero, suc, ◌+◌, ◌<◌, Bool, true, false, cond, List, [], ◌∷◌, length, map, get_or, None, Some}
use Rattle.std.proofs.Common.{refl, sym, ap, ◌∙◌, arith, ⊎_elim}
use Rattle.std.specs.Prelude.{All, slice_get, position}
use Rattle.std.specs.List.{position_from}
use Rattle.std.proofs.lemmas.Bool.{cases_lt}
use Rattle.std.proofs.Math.Nat.{eq-or-lt_of_le}
use Rattle.std.proofs.lemmas.Option.{same_Some}
use Rattle.std.proofs.lemmas.Iterator.Adapters.{position_from-zero}
use Rattle.std.proofs.lemmas.List.Elements.{All-nil, All-head, All-tail, All-cons}

-- the element at a place, and its image
pub image-at : {X A : Type 0} (f : X → A) (xs : List X) (i : ℕ) (v : A) → slice_get (map f xs) i ≡ Some v
    → (i < length xs) × ((d : X) → f (get_or xs i d) ≡ v)
image-at f [] i v e = cc
image-at f (x ∷ xs) zero v e = (omega arith, λ d. same_Some _ _ e)
image-at f (x ∷ xs) (suc i) v e = let rest = image-at f xs i v e in (omega (arith, rest.0), rest.1)

-- no image at a place where all images differ from it
pub no_image : {X A : Type 0} (f : X → A) (xs : List X) (i : ℕ) (v : A) (d : X) → All (λ x. f x ≢ v) xs → slice_get (map f xs) i ≡ Some v
    → ⊥
no_image f xs i v d none e = let at = image-at f xs i v e in none i d at.0 (at.1 d)

-- one place alone has an image, where the images are distinct
pub same_place : {X A : Type 0} (f : X → A) (xs : List X) (i j : ℕ) (v : A) (d : X)
    → ((i j : ℕ) (d : X) → i < j → j < length xs → f (get_or xs i d) ≢ f (get_or xs j d)) → slice_get (map f xs) i ≡ Some v
    → slice_get (map f xs) j ≡ Some v → i ≡ j
same_place f xs i j v d apart e e' =
    let at = image-at f xs i v e in
    let at' = image-at f xs j v e' in
    ⊎_elim (λ (lt : i < j). absurd (apart i j d lt at'.0 (at.1 d ∙ sym (at'.1 d))))
    (λ ge. ⊎_elim (λ (same : j ≡ i). sym same) (λ (lt : j < i). absurd (apart j i d lt at.0 (at'.1 d ∙ sym (at.1 d)))) (eq-or-lt_of_le ge))
    (cases_lt i j)

-- what follows for the one image from the other
pub All-image : {X Y Z : Type 0} (f : X → Y) (g : X → Z) (P : Y → Type 0) (Q : Z → Type 0) → ((x : X) → Q (g x) → P (f x)) → (xs : List X)
    → All Q (map g xs) → All P (map f xs)
All-image f g P Q step [] all = All-nil P
All-image f g P Q step (x ∷ xs) all =
    All-cons P (f x) (map f xs) (step x (All-head Q (g x) (map g xs) all)) (All-image f g P Q step xs (All-tail Q (g x) (map g xs) all))

position_from-None : {X : Type 0} (p : X → Bool) (n : ℕ) (xs : List X) → position_from p n xs ≡ None → All (λ x. p x ≡ false) xs
position_from-None p n [] e = All-nil (λ x. p x ≡ false)
position_from-None p n (x ∷ xs) e = by (p x) refl e (position_from-None p (n + 1) xs)
  where
    by : (b : Bool) → p x ≡ b → cond b (Some n) (position_from p (n + 1) xs) ≡ None
        → (position_from p (n + 1) xs ≡ None → All (λ x. p x ≡ false) xs) → All (λ x. p x ≡ false) (x ∷ xs)
    by true passes found rest = cc
    by false fails found rest = All-cons (λ x. p x ≡ false) x xs fails (rest found)

-- where there is no first element that passes, each element fails
pub position-None : {X : Type 0} (p : X → Bool) (xs : List X) → position p xs ≡ None → All (λ x. p x ≡ false) xs
position-None p xs e = position_from-None p 0 xs (sym (position_from-zero p xs) ∙ e)

position_from-Some : {X A : Type 0} (p : X → Bool) (f : X → A) (v : A) → ((x : X) → p x ≡ true → f x ≡ v) → (n i : ℕ) (xs : List X)
    → position_from p n xs ≡ Some i → (k : ℕ) × (i ≡ n + k) × (slice_get (map f xs) k ≡ Some v)
position_from-Some p f v means n i [] e = cc
position_from-Some p f v means n i (x ∷ xs) e = by (p x) refl e (position_from-Some p f v means (n + 1) i xs)
  where
    by : (b : Bool) → p x ≡ b → cond b (Some n) (position_from p (n + 1) xs) ≡ Some i
        → (position_from p (n + 1) xs ≡ Some i → (k : ℕ) × (i ≡ n + 1 + k) × (slice_get (map f xs) k ≡ Some v))
        → (k : ℕ) × (i ≡ n + k) × (slice_get (map f (x ∷ xs)) k ≡ Some v)
    by true passes found rest = let same : n ≡ i = same_Some _ _ found in (0, omega arith, ap Some (means x passes))
    by false fails found rest = let later = rest found in (suc later.0, omega (arith, later.1), later.2)

-- the first element that passes has the image that the test asks for
pub position-Some : {X A : Type 0} (p : X → Bool) (f : X → A) (v : A) → ((x : X) → p x ≡ true → f x ≡ v) → (i : ℕ) (xs : List X)
    → position p xs ≡ Some i → slice_get (map f xs) i ≡ Some v
position-Some p f v means i xs e =
    let at = position_from-Some p f v means 0 i xs (sym (position_from-zero p xs) ∙ e) in
    let same : at.0 ≡ i = omega (arith, at.1) in
    ap (slice_get (map f xs)) (sym same) ∙ at.2
