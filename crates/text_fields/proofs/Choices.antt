-- There is one outcome of a choice, where there is one on either side.
use Rattle.std.proofs.Common.{◌≡◌, ◌⊎◌, refl, sym, ◌∙◌, subst, inl, inr}
use Rattle.text_fields.specs.Choice.{IsDecided, IsOnly, IsChoice, IsReading, IsJudging, IsAllowing}

pub only : {O : Type 0} (outcome : O) → IsDecided (IsOnly outcome)
only outcome = record { some = (outcome, refl); one = λ one other is also. is ∙ sym also }

module _ {O : Type 0} {Holds : Type 0} {Then Else : O → Type 0} where
  choice_some : Holds ⊎ (Holds → ⊥) → (Holds → IsDecided Then) → ((Holds → ⊥) → IsDecided Else)
      → (outcome : O) × IsChoice Holds Then Else outcome
  choice_some (inl holds) then else = let found = then holds in (found.some.0, inl (holds, found.some.1))
  choice_some (inr fails) then else = let found = else fails in (found.some.0, inr (fails, found.some.1))

  choice_one : (Holds → IsDecided Then) → ((Holds → ⊥) → IsDecided Else) → (outcome other : O)
      → IsChoice Holds Then Else outcome → IsChoice Holds Then Else other → outcome ≡ other
  choice_one then else outcome other (inl is) (inl also) = let found = then is.0 in found.one outcome other is.1 also.1
  choice_one then else outcome other (inl is) (inr also) = absurd (also.0 is.0)
  choice_one then else outcome other (inr is) (inl also) = absurd (is.0 also.0)
  choice_one then else outcome other (inr is) (inr also) = let found = else is.0 in found.one outcome other is.1 also.1

  pub choice : Holds ⊎ (Holds → ⊥) → (Holds → IsDecided Then) → ((Holds → ⊥) → IsDecided Else) → IsDecided (IsChoice Holds Then Else)
  choice decided then else = record { some = choice_some decided then else; one = choice_one then else }

module _ {A O : Type 0} {Says : A → Type 0} {Then : A → O → Type 0} {Else : O → Type 0} where
  reading_some : ((value : A) × Says value) ⊎ ((value : A) → Says value → ⊥) → ((value : A) → Says value → IsDecided (Then value))
      → IsDecided Else
      → (outcome : O) × IsReading Says Then Else outcome
  reading_some (inl said) then else = let found = then said.0 said.1 in (found.some.0, inl (said.0, said.1, found.some.1))
  reading_some (inr none) then else = (else.some.0, inr (none, else.some.1))

  reading_one : ((value other : A) → Says value → Says other → value ≡ other) → ((value : A) → Says value → IsDecided (Then value))
      → IsDecided Else
      → (outcome other : O) → IsReading Says Then Else outcome → IsReading Says Then Else other → outcome ≡ other
  reading_one same then else outcome other (inl is) (inl also) =
      let found = then also.0 also.1 in
      found.one outcome other (subst (λ (value : A). Then value outcome) (same is.0 also.0 is.1 also.1) is.2) also.2
  reading_one same then else outcome other (inl is) (inr also) = absurd (also.0 is.0 is.1)
  reading_one same then else outcome other (inr is) (inl also) = absurd (is.0 also.0 also.1)
  reading_one same then else outcome other (inr is) (inr also) = else.one outcome other is.1 also.1

  pub reading : ((value : A) × Says value) ⊎ ((value : A) → Says value → ⊥) → ((value other : A) → Says value → Says other → value ≡ other)
      → ((value : A) → Says value → IsDecided (Then value)) → IsDecided Else → IsDecided (IsReading Says Then Else)
  reading decided same then else = record { some = reading_some decided then else; one = reading_one same then else }

module _ {A F O : Type 0} {Says : A → Type 0} {HasFault : F → Type 0} {Then : A → O → Type 0} {Else : F → O → Type 0} where
  judging_some : ((value : A) × Says value) ⊎ ((fault : F) × HasFault fault) → ((value : A) → Says value → IsDecided (Then value))
      → ((fault : F) → HasFault fault → IsDecided (Else fault)) → (outcome : O) × IsJudging Says HasFault Then Else outcome
  judging_some (inl said) then else = let found = then said.0 said.1 in (found.some.0, inl (said.0, said.1, found.some.1))
  judging_some (inr bad) then else = let found = else bad.0 bad.1 in (found.some.0, inr (bad.0, bad.1, found.some.1))

  judging_one : ((value other : A) → Says value → Says other → value ≡ other)
      → ((fault other : F) → HasFault fault → HasFault other → fault ≡ other)
      → ((value : A) (fault : F) → Says value → HasFault fault → ⊥) → ((value : A) → Says value → IsDecided (Then value))
      → ((fault : F) → HasFault fault → IsDecided (Else fault))
      → (outcome other : O) → IsJudging Says HasFault Then Else outcome → IsJudging Says HasFault Then Else other → outcome ≡ other
  judging_one same alike never then else outcome other (inl is) (inl also) =
      let found = then also.0 also.1 in
      found.one outcome other (subst (λ (value : A). Then value outcome) (same is.0 also.0 is.1 also.1) is.2) also.2
  judging_one same alike never then else outcome other (inl is) (inr also) = absurd (never is.0 also.0 is.1 also.1)
  judging_one same alike never then else outcome other (inr is) (inl also) = absurd (never also.0 is.0 also.1 is.1)
  judging_one same alike never then else outcome other (inr is) (inr also) =
      let found = else also.0 also.1 in
      found.one outcome other (subst (λ (fault : F). Else fault outcome) (alike is.0 also.0 is.1 also.1) is.2) also.2

  pub judging : ((value : A) × Says value) ⊎ ((fault : F) × HasFault fault) → ((value other : A) → Says value → Says other → value ≡ other)
      → ((fault other : F) → HasFault fault → HasFault other → fault ≡ other) → ((value : A) (fault : F) → Says value → HasFault fault → ⊥)
      → ((value : A) → Says value → IsDecided (Then value)) → ((fault : F) → HasFault fault → IsDecided (Else fault))
      → IsDecided (IsJudging Says HasFault Then Else)
  judging decided same alike never then else =
      record { some = judging_some decided then else; one = judging_one same alike never then else }

module _ {F O : Type 0} {Holds : Type 0} {HasFault : F → Type 0} {Then : O → Type 0} {Else : F → O → Type 0} where
  allowing_some : Holds ⊎ ((fault : F) × HasFault fault) → (Holds → IsDecided Then)
      → ((fault : F) → HasFault fault → IsDecided (Else fault))
      → (outcome : O) × IsAllowing Holds HasFault Then Else outcome
  allowing_some (inl holds) then else = let found = then holds in (found.some.0, inl (holds, found.some.1))
  allowing_some (inr bad) then else = let found = else bad.0 bad.1 in (found.some.0, inr (bad.0, bad.1, found.some.1))

  allowing_one : ((fault other : F) → HasFault fault → HasFault other → fault ≡ other) → ((fault : F) → Holds → HasFault fault → ⊥)
      → (Holds → IsDecided Then) → ((fault : F) → HasFault fault → IsDecided (Else fault))
      → (outcome other : O) → IsAllowing Holds HasFault Then Else outcome → IsAllowing Holds HasFault Then Else other → outcome ≡ other
  allowing_one alike never then else outcome other (inl is) (inl also) = let found = then is.0 in found.one outcome other is.1 also.1
  allowing_one alike never then else outcome other (inl is) (inr also) = absurd (never also.0 is.0 also.1)
  allowing_one alike never then else outcome other (inr is) (inl also) = absurd (never is.0 also.0 is.1)
  allowing_one alike never then else outcome other (inr is) (inr also) =
      let found = else also.0 also.1 in
      found.one outcome other (subst (λ (fault : F). Else fault outcome) (alike is.0 also.0 is.1 also.1) is.2) also.2

  pub allowing : Holds ⊎ ((fault : F) × HasFault fault) → ((fault other : F) → HasFault fault → HasFault other → fault ≡ other)
      → ((fault : F) → Holds → HasFault fault → ⊥) → (Holds → IsDecided Then) → ((fault : F) → HasFault fault → IsDecided (Else fault))
      → IsDecided (IsAllowing Holds HasFault Then Else)
  allowing decided alike never then else =
      record { some = allowing_some decided then else; one = allowing_one alike never then else }
