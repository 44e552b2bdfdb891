-- Why there is no text: the bytes are refused, or memory was.
use Rattle.std.proofs.Common.{◌≡◌, ℕ, ◌⊎◌, List, Option, None, Some, Err, refl, ap, inl, inr}
use Rattle.kernel_trace.specs.TraceFault.{kind_number}
use Rattle.kernel_trace.specs.declared.fault.TraceFault.{TraceFault}
use Rattle.kernel_trace.specs.declared.fault.TraceKind.{TraceKind}
use Rattle.kernel_trace.specs.declared.fault.TraceKind.TheVariants as kind
use Rattle.commands.specs.Answers.{Answers}
use Rattle.commands.specs.Refusal.{IsAnsweredInput}
use Rattle.commands.specs.Status.{status_of_number}
use Rattle.commands.specs.declared.status.Status.{Status}
use Rattle.commands.specs.declared.status.Status.TheVariants.{OutOfMemory}
use Rattle.commands.specs.Import.{RefusesTraceText, status_of_trace_fault}

-- a fault that says out of memory
memory_of_fault : (fault : TraceFault) → fault.kind ≡ kind.OutOfMemory → status_of_trace_fault fault ≡ OutOfMemory
memory_of_fault fault memory = ap (λ (k : TraceKind). status_of_number fault.line (kind_number k)) memory

-- a reader of traces, by which lines and kinds it refuses a text with
module _ (IsRefused : ℕ → TraceKind → Type 0) where
  abbrev Refuses : Status → Type 0
  Refuses status = IsAnsweredInput (RefusesTraceText IsRefused) status

  refused_number : (line : ℕ) (cause : TraceKind) (number : Option ℕ) → kind_number cause ≡ number → IsRefused line cause
      → Refuses (status_of_number line number) ⊎ (status_of_number line number ≡ OutOfMemory)
  refused_number line cause None none refused = inr refl
  refused_number line cause (Some k) some refused =
      inl record { number = line; kind = k; answer = refl; cause = record { cause = cause; refused = refused; number = some } }

  refusal_of_fault : (fault : TraceFault) → (fault.kind ≡ kind.OutOfMemory) ⊎ IsRefused fault.line fault.kind
      → Refuses (status_of_trace_fault fault) ⊎ (status_of_trace_fault fault ≡ OutOfMemory)
  refusal_of_fault fault (inl memory) = inr (memory_of_fault fault memory)
  refusal_of_fault fault (inr refused) = refused_number fault.line fault.kind (kind_number fault.kind) refl refused

  status_of_refused : (expected : Status) (fault : TraceFault) (why : Refuses expected)
      → (fault.kind ≡ kind.OutOfMemory) ⊎ ((fault.line ≡ why.number) × (fault.kind ≡ why.cause.cause))
      → (status_of_trace_fault fault ≡ expected) ⊎ (status_of_trace_fault fault ≡ OutOfMemory)
  status_of_refused expected fault why (inl memory) = inr (memory_of_fault fault memory)
  status_of_refused expected fault why (inr found) = inl (rw (found.0, found.1, why.cause.number, why.answer) refl)

  -- the fault of a text, as its reader has it
  pub answers_fault : {Makes : List ℕ → Type 0} {Text : Type 0} (IsText : Text → Type 0) (fault : TraceFault)
      → ((text : Text) → IsText text → fault.kind ≡ kind.OutOfMemory)
      → (fault.kind ≡ kind.OutOfMemory) ⊎ IsRefused fault.line fault.kind
      → ((line : ℕ) (cause : TraceKind) → IsRefused line cause → (fault.kind ≡ kind.OutOfMemory)
      ⊎ ((fault.line ≡ line) × (fault.kind ≡ cause)))
      → Answers Makes ((text : Text) × IsText text) Refuses (Err (status_of_trace_fault fault))
  answers_fault IsText fault accepts refused refuses = record {
    makes = tt;
    refused = refusal_of_fault fault refused;
    accepts = λ accepted. memory_of_fault fault (accepts accepted.0 accepted.1);
    refuses = λ expected why. status_of_refused expected fault why (refuses why.number why.cause.cause why.cause.refused);
  }
