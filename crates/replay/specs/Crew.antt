-- The workers of a replay, in the order of their processors, and the processors that have no
-- thread.
use Rattle.std.specs.Prelude.{ℕ, ◌+◌, Option, None, Some, List, [], ◌∷◌}

-- at each number from n on there is a thread, of which P holds; or there is none, and Q holds of
-- the next processor that is left
abbrev pub IsCrew : {H X : Type 0} → (ℕ → H → Type 0) → (ℕ → X → Type 0) → ℕ → List (Option H)
    → List X → Type 0
IsCrew P Q n [] [] = Unit {0}
IsCrew P Q n [] (x ∷ left) = ⊥
IsCrew P Q n (Some h ∷ workers) left = P n h × IsCrew P Q (n + 1) workers left
IsCrew P Q n (None ∷ workers) [] = ⊥
IsCrew P Q n (None ∷ workers) (x ∷ left) = Q n x × IsCrew P Q (n + 1) workers left
