-- What holds of each element of a list, where others follow.
use Rattle.std.proofs.Common.{◌≡◌, ℕ, zero, suc, ◌+◌, ◌<◌, List, [], ◌∷◌, ◌++◌, length, Some, sym, ◌∙◌, subst, arith}
use Rattle.std.specs.Prelude.{replicate, slice_get}
use Rattle.std.proofs.lemmas.List.{length-replicate, get_or-replicate}
use Rattle.std.proofs.lemmas.Option.{slice_get_within, get_or_from_slice_get, same_Some}

pub each_appended : {X : Type 0} (Is : ℕ → X → Type 0) (xs ys : List X)
    → ((k : ℕ) (x : X) → slice_get xs k ≡ Some x → Is k x)
    → ((k j : ℕ) (y : X) → j ≡ length xs + k → slice_get ys k ≡ Some y → Is j y)
    → (k : ℕ) (x : X) → slice_get (xs ++ ys) k ≡ Some x → Is k x
each_appended Is [] ys before after k x is = after k k x (omega arith) is
each_appended Is (first ∷ xs) ys before after zero x is = before zero x is
each_appended Is (first ∷ xs) ys before after (suc k) x is =
    each_appended (λ (n : ℕ). Is (suc n)) xs ys (λ n y there. before (suc n) y there)
    (λ n j y place there. after n (suc j) y (omega (arith, place)) there) k x is

-- one element more
last_place : {X : Type 0} (last : X) (k : ℕ) (y : X) → slice_get (last ∷ []) k ≡ Some y → (k ≡ 0) × (last ≡ y)
last_place last k y is =
    let within = slice_get_within (last ∷ []) k y is in
    let place : k ≡ 0 = omega (arith, within) in
    (place, same_Some last y (subst (λ (n : ℕ). slice_get (last ∷ []) n ≡ Some y) place is))

pub each_pushed : {X : Type 0} (Is : ℕ → X → Type 0) (xs : List X) (last : X)
    → ((k : ℕ) (x : X) → slice_get xs k ≡ Some x → Is k x) → Is (length xs) last
    → (k : ℕ) (x : X) → slice_get (xs ++ last ∷ []) k ≡ Some x → Is k x
each_pushed {X} Is xs last before there =
    each_appended Is xs (last ∷ []) before
    (λ k j y place is.
    (let at = last_place last k y is in
    let none = at.0 in
    let here : length xs ≡ j = omega (arith, place, none) in
    subst (λ (n : ℕ). Is n y) here (subst (λ (z : X). Is (length xs) z) at.1 there)))

-- equal elements
pub in_replicate : {X : Type 0} (units : ℕ) (same : X) (k : ℕ) (y : X) → slice_get (replicate units same) k ≡ Some y
    → (k < units) × (same ≡ y)
in_replicate units same k y is =
    let within = slice_get_within (replicate units same) k y is in
    let long = length-replicate units same in
    let below : k < units = omega (arith, within, long) in
    (below, sym (get_or-replicate units k same y below) ∙ get_or_from_slice_get (replicate units same) k y y is)
