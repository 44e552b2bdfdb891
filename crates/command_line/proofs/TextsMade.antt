-- The answer of a call that read an input, and ended in the call that makes its text.
use Rattle.std.proofs.Common.{◌≡◌, ℕ, List, Result, Ok, Err, IfOk, IfErr, Vec, inr}
use Rattle.std.specs.declared.alloc.Global.{Global}
use Rattle.trace_reader.specs.declared.fault.InputKind.{InputKind}
use Rattle.trace_reader.specs.InputFault.{IsInputRefused}
use Rattle.commands.specs.Answers.{Answers}
use Rattle.commands.specs.Refusal.{IsAccepted, IsAnsweredInput, RefusesInput}
use Rattle.commands.specs.declared.status.Status.{Status}
use Rattle.commands.specs.declared.status.Status.TheVariants.{OutOfMemory}

pub answers_made : (IsMadeOf Makes : List ℕ → Type 0) (bytes : List ℕ) (result : Result (Vec ℕ Global) Status)
    → ((put : List ℕ) → IsMadeOf put → Makes put)
    → IfOk result (λ (text : Vec ℕ Global). IsMadeOf text.items) → IfErr result (λ (status : Status). status ≡ OutOfMemory)
    → ((line : ℕ) (cause : InputKind) → IsInputRefused bytes line cause → ⊥)
    → Answers Makes (IsAccepted bytes) (IsAnsweredInput (RefusesInput bytes)) result
answers_made IsMadeOf Makes bytes (Ok text) makes made refused unrefused = record {
  makes = makes text.items made;
  refused = tt;
  accepts = λ accepted. tt;
  refuses = λ expected why. unrefused why.number why.cause.cause why.cause.refused;
}
answers_made IsMadeOf Makes bytes (Err status) makes made refused unrefused = record {
  makes = tt;
  refused = inr refused;
  accepts = λ accepted. refused;
  refuses = λ expected why. inr refused;
}
