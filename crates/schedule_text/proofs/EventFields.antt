-- Events by the fields as the code cuts them.
use Rattle.std.proofs.Common.{◌≡◌, ℕ, ◌<◌, ◌≤◌, List, [], ◌∷◌, length, get_or, Bor, Result, IfErr, sym, ap, ◌∙◌, subst}
use Rattle.std.specs.Prelude.{codes}
use Rattle.task_set.specs.TaskSet.{SetData}
use Rattle.task_set.specs.declared.event.Event.{Event}
use Rattle.text_fields.specs.Fields.{texts}
use Rattle.text_fields.proofs.FieldLists.{texts_two, texts_three}
use Rattle.schedule_text.specs.declared.fault.TextKind.{TextKind}
use Rattle.schedule_text.specs.LineFields.{IsEventFault}

-- what is refused
abbrev IsRefused : ℕ → List (List ℕ) → SetData → Result Event TextKind → Type 0
IsRefused version fields set result = IfErr result (IsEventFault version fields set)

pub two_refused : (version : ℕ) (set : SetData) (fields : List (Bor (List ℕ))) (d : Bor (List ℕ))
    (result : Result Event TextKind) → 2 ≤ length fields → length fields < 3
    → IfErr result (IsEventFault version ((get_or fields 0 d).now ∷ (get_or fields 1 d).now ∷ []) set)
    → IsRefused version (texts fields) set result
two_refused version set fields d result some few refused =
    subst (λ (all : List (List ℕ)). IsRefused version all set result) (sym (texts_two fields d some few)) refused

pub affinity_refused : (version : ℕ) (set : SetData) (fields : List (Bor (List ℕ))) (d : Bor (List ℕ))
    (result : Result Event TextKind) → 3 ≤ length fields → length fields < 4 → version ≡ 2
    → (get_or fields 0 d).now ≡ codes "affinity"
    → IsRefused 2 (codes "affinity" ∷ (get_or fields 1 d).now ∷ (get_or fields 2 d).now ∷ []) set result
    → IsRefused version (texts fields) set result
affinity_refused version set fields d result some few two is refused =
    subst (λ (all : List (List ℕ)). IsRefused version all set result)
    (sym (texts_three fields d some few
    ∙ ap (λ (word : List ℕ). word ∷ (get_or fields 1 d).now ∷ (get_or fields 2 d).now ∷ []) is))
    (subst (λ (v : ℕ). IsRefused v (codes "affinity" ∷ (get_or fields 1 d).now ∷ (get_or fields 2 d).now ∷ []) set result)
    (sym two) refused)
