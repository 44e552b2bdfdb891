-- What a line comes to, by the fields as the code cuts them.
use Rattle.std.proofs.Common.{◌≡◌, ℕ, ◌<◌, ◌⊎◌, inl, inr, List, length, refl, ap, subst}
use Rattle.std.specs.Prelude.{codes}
use Rattle.task_set.specs.TaskSet.{SetData}
use Rattle.strong_apa.specs.declared.reply.Entry.{Entry}
use Rattle.text_fields.specs.Machine.{Fails}
use Rattle.schedule_text.specs.Fields.{spaced_fields_of, IsNumberAfter}
use Rattle.schedule_text.specs.LineFields.{IsTaskFault, IsEntryFault}
use Rattle.schedule_text.specs.LineOutcome.{LineOutcome, IsTaskOutcome, IsEntryOutcome}
use Rattle.schedule_text.specs.Prefix.{TasksExpected, EntriesExpected}
use Rattle.schedule_text.specs.Reading.{IsOutOfMemory, IsFaultOf}
use Rattle.schedule_text.specs.declared.fault.TextKind.{TextKind}

-- what some fields come to is what the fields come to that they are
pub at_fields : (Comes : List (List ℕ) → LineOutcome → Type 0) (fields cut : List (List ℕ)) (outcome : LineOutcome)
    → fields ≡ cut → Comes fields outcome → Comes cut outcome
at_fields Comes fields cut outcome is comes = subst (λ (all : List (List ℕ)). Comes all outcome) is comes

pub task_refused_line : (version : ℕ) (set : SetData) (fields : List (List ℕ)) (text : List ℕ) (kind : TextKind)
    → fields ≡ spaced_fields_of text → ((n : ℕ) → IsNumberAfter (codes "history") 0 20000 fields n → ⊥)
    → IsOutOfMemory kind ⊎ IsTaskFault set fields kind → IsFaultOf (TasksExpected version set) text kind
task_refused_line version set fields text kind cut none (inl memory) = inl memory
task_refused_line version set fields text kind cut none (inr (inl bad)) =
    inr (at_fields (IsTaskOutcome version set) fields _ (Fails kind) cut (inr (none, inr (bad.1, ap Fails bad.0))))
task_refused_line version set fields text kind cut none (inr (inr (added, fault, is, form, refused))) =
    inr (at_fields (IsTaskOutcome version set) fields _ (Fails kind) cut
    (inr (none, inl (added, form, inr (fault, refused, ap Fails is)))))

pub entry_refused : (version : ℕ) (set : SetData) (count : ℕ) (entries : List Entry) (fields : List (List ℕ))
    (text : List ℕ) (kind : TextKind) → fields ≡ spaced_fields_of text → length entries < count
    → IsOutOfMemory kind ⊎ IsEntryFault version fields set kind
    → IsFaultOf (EntriesExpected version set count entries) text kind
entry_refused version set count entries fields text kind cut room (inl memory) = inl memory
entry_refused version set count entries fields text kind cut room (inr fault) =
    inr (inl (
      room,
      at_fields (IsEntryOutcome version set count entries) fields _ (Fails kind) cut (inr (kind, fault, refl)),
    ))
