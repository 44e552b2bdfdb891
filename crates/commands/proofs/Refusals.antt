-- Why there is no text: the bytes are refused, or memory was.
use Rattle.std.proofs.Common.{◌≡◌, ℕ, ◌⊎◌, List, Option, None, Some, refl, ap, inl, inr}
use Rattle.trace_reader.specs.declared.fault.InputFault.{InputFault}
use Rattle.trace_reader.specs.declared.fault.InputKind.{InputKind}
use Rattle.trace_reader.specs.declared.fault.InputKind.TheVariants as kind
use Rattle.trace_reader.specs.InputFault.{IsInputRefused, kind_number}
use Rattle.schedule_text.specs.ScheduleFault as text
use Rattle.schedule_text.specs.declared.fault.TextFault.{TextFault}
use Rattle.schedule_text.specs.declared.fault.TextKind.{TextKind}
use Rattle.schedule_text.specs.declared.fault.TextKind.TheVariants as text_kind
use Rattle.commands.specs.declared.status.Status.{Status}
use Rattle.commands.specs.declared.status.Status.TheVariants.{OutOfMemory}
use Rattle.commands.specs.Status.{status_of_fault, status_of_text_fault, status_of_number}
use Rattle.commands.specs.Refusal.{IsAnsweredInput, RefusesInput, RefusesSchedule}

-- ---- an input text
-- a fault that says out of memory
pub memory_of_fault : (fault : InputFault) → fault.kind ≡ kind.OutOfMemory → status_of_fault fault ≡ OutOfMemory
memory_of_fault fault memory = ap (λ (k : InputKind). status_of_number fault.line (kind_number k)) memory

refused_number : (bytes : List ℕ) (line : ℕ) (cause : InputKind) (number : Option ℕ) → kind_number cause ≡ number
    → IsInputRefused bytes line cause → IsAnsweredInput (RefusesInput bytes) (status_of_number line number)
    ⊎ (status_of_number line number ≡ OutOfMemory)
refused_number bytes line cause None none refused = inr refl
refused_number bytes line cause (Some k) some refused =
    inl record { number = line; kind = k; answer = refl; cause = record { cause = cause; refused = refused; number = some } }

-- the status of a fault of an input
pub refusal_of_fault : (bytes : List ℕ) (fault : InputFault) → (fault.kind ≡ kind.OutOfMemory) ⊎ IsInputRefused bytes fault.line fault.kind
    → IsAnsweredInput (RefusesInput bytes) (status_of_fault fault) ⊎ (status_of_fault fault ≡ OutOfMemory)
refusal_of_fault bytes fault (inl memory) = inr (memory_of_fault fault memory)
refusal_of_fault bytes fault (inr refused) = refused_number bytes fault.line fault.kind (kind_number fault.kind) refl refused

-- the fault that is expected, or out of memory
pub status_of_refused : (bytes : List ℕ) (expected : Status) (fault : InputFault) (why : IsAnsweredInput (RefusesInput bytes) expected)
    → (fault.kind ≡ kind.OutOfMemory) ⊎ ((fault.line ≡ why.number) × (fault.kind ≡ why.cause.cause)) → (status_of_fault fault ≡ expected)
    ⊎ (status_of_fault fault ≡ OutOfMemory)
status_of_refused bytes expected fault why (inl memory) = inr (memory_of_fault fault memory)
status_of_refused bytes expected fault why (inr found) = inl (rw (found.0, found.1, why.cause.number, why.answer) refl)

-- ---- a schedule text
-- a fault that says out of memory
pub memory_of_text_fault : (fault : TextFault) → fault.kind ≡ text_kind.OutOfMemory → status_of_text_fault fault ≡ OutOfMemory
memory_of_text_fault fault memory = ap (λ (k : TextKind). status_of_number fault.line (text.kind_number k)) memory

text_refused_number : (bytes : List ℕ) (line : ℕ) (cause : TextKind) (number : Option ℕ) → text.kind_number cause ≡ number
    → text.IsScheduleRefused bytes line cause → IsAnsweredInput (RefusesSchedule bytes) (status_of_number line number)
    ⊎ (status_of_number line number ≡ OutOfMemory)
text_refused_number bytes line cause None none refused = inr refl
text_refused_number bytes line cause (Some k) some refused =
    inl record { number = line; kind = k; answer = refl; cause = record { cause = cause; refused = refused; numbered = some } }

-- the status of a fault of a schedule text
pub refusal_of_text_fault : (bytes : List ℕ) (fault : TextFault) → (fault.kind ≡ text_kind.OutOfMemory)
    ⊎ text.IsScheduleRefused bytes fault.line fault.kind → IsAnsweredInput (RefusesSchedule bytes) (status_of_text_fault fault)
    ⊎ (status_of_text_fault fault ≡ OutOfMemory)
refusal_of_text_fault bytes fault (inl memory) = inr (memory_of_text_fault fault memory)
refusal_of_text_fault bytes fault (inr refused) = text_refused_number bytes fault.line fault.kind (text.kind_number fault.kind) refl refused

-- the fault that is expected, or out of memory
pub status_of_text_refused : (bytes : List ℕ) (expected : Status) (fault : TextFault)
    (why : IsAnsweredInput (RefusesSchedule bytes) expected) → (fault.kind ≡ text_kind.OutOfMemory)
    ⊎ ((fault.line ≡ why.number) × (fault.kind ≡ why.cause.cause)) → (status_of_text_fault fault ≡ expected)
    ⊎ (status_of_text_fault fault ≡ OutOfMemory)
status_of_text_refused bytes expected fault why (inl memory) = inr (memory_of_text_fault fault memory)
status_of_text_refused bytes expected fault why (inr found) = inl (rw (found.0, found.1, why.cause.numbered, why.answer) refl)
