-- From the bytes of a trace of the Linux scheduler to those of its input.
use Rattle.std.specs.Prelude.{◌≡◌, ℕ, List, Some}
use Rattle.trace_reader.specs.CanonicalText.{canonical_input_text}
use Rattle.trace_reader.specs.Input.{InputData}
use Rattle.trace_reader.specs.InputText.{IsInputText}
use Rattle.kernel_trace.specs.Import.{IsImport}
use Rattle.kernel_trace.specs.TraceFault.{kind_number}
use Rattle.kernel_trace.specs.TraceText.{IsTraceText, IsTraceRefused}
use Rattle.kernel_trace.specs.declared.fault.TraceFault.{TraceFault}
use Rattle.kernel_trace.specs.declared.fault.TraceKind.{TraceKind}
use Rattle.commands.specs.Refusal.{IsAnsweredInput}
use Rattle.commands.specs.Status.{status_of_number}
use Rattle.commands.specs.declared.status.Status.{Status}

-- the bytes read are the text of a trace, and the bytes written are the canonical text of the input
-- that it comes to, and so an input text of it: the ready tasks are those that the trace says are
-- ready, and the ticks are its time
pub record IsImportOf (read put : List ℕ) : Type 0 where
  pub input : InputData
  pub is_text : IsTraceText read input
  pub is_import : IsImport read input
  pub text : put ≡ canonical_input_text input.version input.set input.events
  pub is_input : IsInputText input.version put input.set input.events

-- the bytes are the text of a trace
abbrev pub AcceptsTrace : List ℕ → Type 0
AcceptsTrace bytes = (input : InputData) × IsTraceText bytes input

-- a text is refused at this line, with a kind of this number
pub record RefusesTraceText (IsRefused : ℕ → TraceKind → Type 0) (line kind : ℕ) : Type 0 where
  pub cause : TraceKind
  pub refused : IsRefused line cause
  pub number : kind_number cause ≡ Some kind

-- the bytes are refused with this status
abbrev pub RefusesTrace : List ℕ → Status → Type 0
RefusesTrace bytes status = IsAnsweredInput (RefusesTraceText (IsTraceRefused bytes)) status

-- the status of a fault of the text
abbrev pub status_of_trace_fault : TraceFault → Status
status_of_trace_fault fault = status_of_number fault.line (kind_number fault.kind)
