-- Which bytes are refused as a text, and with which answer: each text that is not accepted is
-- refused at one line, with one kind, and a schedule text that is wrong at one line, with one
-- defect.
use Rattle.std.specs.Prelude.{◌≡◌, ℕ, List, Some}
use Rattle.task_set.specs.TaskSet.{SetData}
use Rattle.trace_reader.specs.declared.fault.InputKind.{InputKind}
use Rattle.trace_reader.specs.declared.posted.Posted.{Posted}
use Rattle.trace_reader.specs.InputText.{IsInputText}
use Rattle.trace_reader.specs.InputFault.{IsInputRefused, kind_number}
use Rattle.schedule_text.specs.ScheduleFault as text
use Rattle.schedule_text.specs.declared.fault.TextKind.{TextKind}
use Rattle.commands.specs.declared.status.Status.{Status}
use Rattle.commands.specs.declared.status.Status.TheVariants.{Input, Invalid}

-- the bytes are an input text, of either version
abbrev pub IsAccepted : List ℕ → Type 0
IsAccepted bytes =
    (version : ℕ) × (set : SetData) × (events : List Posted) × IsInputText version bytes set events

-- the bytes are no input text: refused at this line, with a kind of this number
pub record RefusesInput (bytes : List ℕ) (line kind : ℕ) : Type 0 where
  pub cause : InputKind
  pub refused : IsInputRefused bytes line cause
  pub number : kind_number cause ≡ Some kind

-- the bytes are no schedule text: refused at this line, with a kind of this number
pub record RefusesSchedule (bytes : List ℕ) (number kind : ℕ) : Type 0 where
  pub cause : TextKind
  pub refused : text.IsScheduleRefused bytes number cause
  pub numbered : text.kind_number cause ≡ Some kind

-- the bytes are refused with the answer Input, at a line and with a kind
pub record IsAnsweredInput (Cause : ℕ → ℕ → Type 0) (status : Status) : Type 0 where
  pub number : ℕ
  pub kind : ℕ
  pub answer : status ≡ Input number kind
  pub cause : Cause number kind

-- the schedule is refused with the answer Invalid, at a line and with a defect
pub record IsAnsweredInvalid (Cause : ℕ → ℕ → Type 0) (status : Status) : Type 0 where
  pub number : ℕ
  pub defect : ℕ
  pub answer : status ≡ Invalid number defect
  pub cause : Cause number defect
