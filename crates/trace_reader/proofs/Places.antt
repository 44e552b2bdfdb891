-- Elements of lists by their places.
use Rattle.std.proofs.Common.{◌≡◌, ℕ, zero, suc, ◌<◌, List, [], ◌∷◌, ◌++◌, length, Some, refl, arith, inl, inr, ◌⊎◌, ap, sym}
use Rattle.std.specs.Prelude.{slice_get}
use Rattle.std.proofs.lemmas.Option.{same_Some}

-- an element of a prefix of a list
pub slice_get_left : {X : Type 0} (xs ys : List X) (j : ℕ) → j < length xs → slice_get (xs ++ ys) j ≡ slice_get xs j
slice_get_left [] ys j within = absurd (omega arith)
slice_get_left (x ∷ xs) ys zero within = refl
slice_get_left (x ∷ xs) ys (suc j) within = slice_get_left xs ys j (omega arith)

-- the last element
pub slice_get_seam : {X : Type 0} (xs : List X) (x : X) → slice_get (xs ++ x ∷ []) (length xs) ≡ Some x
slice_get_seam [] x = refl
slice_get_seam (y ∷ xs) x = slice_get_seam xs x

-- an element of a list with one more is one of before, or the last
pub before_or_last : {X : Type 0} (xs : List X) (x : X) (k : ℕ) (y : X) → slice_get (xs ++ x ∷ []) k ≡ Some y
    → (slice_get xs k ≡ Some y) ⊎ ((k ≡ length xs) × (y ≡ x))
before_or_last [] x zero y found = inr (refl, sym (same_Some x y found))
before_or_last [] x (suc k) y found = cc
before_or_last (z ∷ xs) x zero y found = inl found
before_or_last (z ∷ xs) x (suc k) y found = elim (before_or_last xs x k y found) [
  | inl there ↦ inl there
  | inr last ↦ inr (ap suc last.0, last.1)
]
