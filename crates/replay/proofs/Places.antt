-- Lists whose elements stand at the places of their numbers, as they change at their ends and at one place.
use Rattle.std.proofs.Common.{◌≡◌, ℕ, zero, suc, ◌+◌, ◌<◌, List, [], ◌∷◌, ◌++◌, length, map, set, get_or, slice_get, Some, sym, refl, ◌∙◌}
use Rattle.std.proofs.Common.{subst, arith}
use Rattle.std.proofs.lemmas.List.{map-append}
use Rattle.replay.specs.Places.{AllFrom}

module _ {X : Type 0} where
  -- the last element, and those before it
  pub AllFrom-last : (P : ℕ → X → Type 0) (n : ℕ) (xs : List X) (x : X) → AllFrom P n (xs ++ x ∷ []) → AllFrom P n xs × P (n + length xs) x
  AllFrom-last P n [] x h = (tt, subst (λ (k : ℕ). P k x) (omega arith) h.0)
  AllFrom-last P n (y ∷ xs) x h =
      let rest = AllFrom-last P (n + 1) xs x h.1 in ((h.0, rest.0), subst (λ (k : ℕ). P k x) (omega arith) rest.1)

  pub AllFrom-push : (P : ℕ → X → Type 0) (n : ℕ) (xs : List X) (x : X) → AllFrom P n xs → P (n + length xs) x → AllFrom P n (xs ++ x ∷ [])
  AllFrom-push P n [] x h last = (subst (λ (k : ℕ). P k x) (omega arith) last, tt)
  AllFrom-push P n (y ∷ xs) x h last = (h.0, AllFrom-push P (n + 1) xs x h.1 (subst (λ (k : ℕ). P k x) (omega arith) last))

  -- the element at a place
  pub AllFrom-at : (P : ℕ → X → Type 0) (n : ℕ) (xs : List X) (i : ℕ) (x : X) → AllFrom P n xs → slice_get xs i ≡ Some x → P (n + i) x
  AllFrom-at P n [] i x h at = absurd (cc at)
  AllFrom-at P n (y ∷ xs) zero x h at =
      let same : y ≡ x = cc at in subst (λ (k : ℕ). P k x) (omega arith) (subst (λ (z : X). P n z) same h.0)
  AllFrom-at P n (y ∷ xs) (suc i) x h at = subst (λ (k : ℕ). P k x) (omega arith) (AllFrom-at P (n + 1) xs i x h.1 at)

  pub AllFrom-weaker : (P Q : ℕ → X → Type 0) → ((n : ℕ) (x : X) → P n x → Q n x) → (n : ℕ) (xs : List X) → AllFrom P n xs → AllFrom Q n xs
  AllFrom-weaker P Q implies n [] h = tt
  AllFrom-weaker P Q implies n (x ∷ xs) h = (implies n x h.0, AllFrom-weaker P Q implies (n + 1) xs h.1)

  -- an element that was inserted at the front
  pub AllFrom-insert : (P : ℕ → X → Type 0) (n m : ℕ) (x : X) (old new : List X) → new ≡ x ∷ old → m ≡ n + 1 → P n x → AllFrom P m old
      → AllFrom P n new
  AllFrom-insert P n m x old new is next first rest = subst (AllFrom P n) (sym is) (first, subst (λ (k : ℕ). AllFrom P k old) next rest)

  pub AllFrom-number : (P : ℕ → X → Type 0) (n m : ℕ) (xs : List X) → n ≡ m → AllFrom P n xs → AllFrom P m xs
  AllFrom-number P n m xs same all = subst (λ (k : ℕ). AllFrom P k xs) same all

  -- an element that is read, and one that is written
  pub AllFrom-read : (P : ℕ → X → Type 0) (n : ℕ) (xs : List X) (i : ℕ) (x : X) → i < length xs → x ≡ get_or xs i x → AllFrom P n xs
      → P (n + i) x
  AllFrom-read P n [] i x low is all = absurd (omega arith)
  AllFrom-read P n (y ∷ xs) zero x low is all = subst (λ (k : ℕ). P k x) (omega arith) (subst (λ (z : X). P n z) (sym is) all.0)
  AllFrom-read P n (y ∷ xs) (suc i) x low is all =
      subst (λ (k : ℕ). P k x) (omega arith) (AllFrom-read P (n + 1) xs i x (omega arith) is all.1)

  pub AllFrom-set : (P : ℕ → X → Type 0) (n : ℕ) (xs : List X) (i : ℕ) (x : X) → P (n + i) x → AllFrom P n xs → AllFrom P n (set xs i x)
  AllFrom-set P n [] i x here all = all
  AllFrom-set P n (y ∷ xs) zero x here all = (subst (λ (k : ℕ). P k x) (omega arith) here, all.1)
  AllFrom-set P n (y ∷ xs) (suc i) x here all = (all.0, AllFrom-set P (n + 1) xs i x (subst (λ (k : ℕ). P k x) (omega arith) here) all.1)

  -- what stands at a place of a list that has one element more
  pub at_front : (xs : List X) (x : X) (i : ℕ) (y : X) → slice_get xs i ≡ Some y → slice_get (xs ++ x ∷ []) i ≡ Some y
  at_front [] x i y at = absurd (cc at)
  at_front (z ∷ xs) x zero y at = at
  at_front (z ∷ xs) x (suc i) y at = at_front xs x i y at

  pub at_last : (xs : List X) (x : X) (i : ℕ) → i ≡ length xs → slice_get (xs ++ x ∷ []) i ≡ Some x
  at_last [] x zero is = refl
  at_last [] x (suc i) is = absurd (omega arith)
  at_last (z ∷ xs) x zero is = absurd (omega arith)
  at_last (z ∷ xs) x (suc i) is = at_last xs x i (omega arith)

-- where two lists agree by a function, so do they without their last elements
no_more : {X : Type 0} (xs : List X) (x : X) → [] ≡ xs ++ x ∷ [] → ⊥
no_more [] x is = cc is
no_more (y ∷ xs) x is = cc is

pub map_front : {X Y : Type 0} (f : X → Y) (xs : List X) (x : X) (ys : List Y) (y : Y) → map f (xs ++ x ∷ []) ≡ ys ++ y ∷ [] → map f xs ≡ ys
map_front f [] x [] y is = refl
map_front f [] x (z ∷ ys) y is = let rest : [] ≡ ys ++ y ∷ [] = cc is in absurd (no_more ys y rest)
map_front f (w ∷ xs) x [] y is =
    let rest : map f (xs ++ x ∷ []) ≡ [] = cc is in absurd (no_more (map f xs) (f x) (sym rest ∙ map-append f xs (x ∷ [])))
map_front f (w ∷ xs) x (z ∷ ys) y is =
    let first : f w ≡ z = cc is in
    let rest : map f (xs ++ x ∷ []) ≡ ys ++ y ∷ [] = cc is in
    λ i. first i ∷ map_front f xs x ys y rest i
