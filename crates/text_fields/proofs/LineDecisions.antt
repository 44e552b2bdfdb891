-- A fact about all items of a list holds or fails.
use Rattle.std.proofs.Common.{◌⊎◌, List, [], ◌∷◌, inl, inr}
use Rattle.std.specs.Prelude.{All}
use Rattle.std.proofs.lemmas.List.Elements.{All-nil, All-head, All-tail, All-cons}

-- each item of a list passes a test, or not
pub all_decided : {A : Type 0} (P : A → Type 0) → ((x : A) → P x ⊎ (P x → ⊥)) → (xs : List A) → All P xs ⊎ (All P xs → ⊥)
all_decided P decide [] = inl (All-nil P)
all_decided P decide (x ∷ xs) = elim (decide x) [
  | inl here ↦ elim (all_decided P decide xs) [
    | inl rest ↦ inl (All-cons P x xs here rest)
    | inr fails ↦ inr (λ all. fails (All-tail P x xs all))
  ]
  | inr fails ↦ inr (λ all. fails (All-head P x xs all))
]
