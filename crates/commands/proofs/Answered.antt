-- The answers of a call that makes a text of bytes, where it has none.
use Rattle.std.proofs.Common.{◌≡◌, ◌⊎◌, ℕ, List, Err, refl, inr}
use Rattle.task_set.specs.TaskSet.{SetData}
use Rattle.trace_reader.specs.declared.fault.InputFault.{InputFault}
use Rattle.trace_reader.specs.declared.fault.InputKind.{InputKind}
use Rattle.trace_reader.specs.declared.fault.InputKind.TheVariants as kind
use Rattle.trace_reader.specs.declared.posted.Posted.{Posted}
use Rattle.trace_reader.specs.InputFault.{IsInputRefused}
use Rattle.trace_reader.specs.InputText.{IsInputText}
use Rattle.commands.specs.Answers.{Answers}
use Rattle.commands.specs.Refusal.{IsAccepted, IsAnsweredInput, RefusesInput}
use Rattle.commands.specs.Status.{status_of_fault}
use Rattle.commands.specs.declared.status.Status.{Status}
use Rattle.commands.specs.declared.status.Status.TheVariants.{OutOfMemory}
use Rattle.commands.proofs.Refusals.{memory_of_fault, refusal_of_fault, status_of_refused}

-- out of memory may come in place of each answer
pub answers_memory : {Makes : List ℕ → Type 0} {Accepts : Type 0} {Refuses : Status → Type 0}
    → Answers Makes Accepts Refuses (Err OutOfMemory)
answers_memory = record { makes = tt; refused = inr refl; accepts = λ a. refl; refuses = λ expected why. inr refl }

-- the fault of an input text, as `read_input` has it
pub answers_fault : {Makes : List ℕ → Type 0} (bytes : List ℕ) (fault : InputFault)
    → ((version : ℕ) (set : SetData) (events : List Posted) → IsInputText version bytes set events → fault.kind ≡ kind.OutOfMemory)
    → (fault.kind ≡ kind.OutOfMemory) ⊎ IsInputRefused bytes fault.line fault.kind
    → ((line : ℕ) (cause : InputKind) → IsInputRefused bytes line cause → (fault.kind ≡ kind.OutOfMemory)
    ⊎ ((fault.line ≡ line) × (fault.kind ≡ cause)))
    → Answers Makes (IsAccepted bytes) (IsAnsweredInput (RefusesInput bytes)) (Err (status_of_fault fault))
answers_fault bytes fault accepts refused refuses = record {
  makes = tt;
  refused = refusal_of_fault bytes fault refused;
  accepts = λ accepted. memory_of_fault fault (accepts accepted.0 accepted.1 accepted.2 accepted.3);
  refuses = λ expected why. status_of_refused bytes expected fault why (refuses why.number why.cause.cause why.cause.refused);
}
