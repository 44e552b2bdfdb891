-- Why a text is not an input. The first line that has a fault decides, and in it the first of the
-- kinds in their order; which fault a line can have follows from what the lines before it said.
use Rattle.std.specs.Prelude.{◌≡◌, ◌≢◌, ℕ, ◌+◌, ◌⊎◌, List, ◌∷◌, ◌++◌, length, true, All, Option}
use Rattle.std.specs.Prelude.{Some, None}
use Rattle.task_set.specs.TaskSet.{SetData}
use Rattle.task_set.specs.declared.fault.TaskFault.{TaskFault}
use Rattle.task_set.specs.declared.fault.TaskFault.TheVariants as task
use Rattle.trace_reader.specs.declared.posted.Posted.{Posted}
use Rattle.text_fields.specs.declared.kind.LineKind.{LineKind}
use Rattle.text_fields.specs.declared.kind.LineKind.TheVariants as line_kind
use Rattle.trace_reader.specs.declared.fault.InputKind.{InputKind}
use Rattle.trace_reader.specs.declared.fault.InputKind.TheVariants.{BadByte, LongLine, BadHeader}
use Rattle.trace_reader.specs.declared.fault.InputKind.TheVariants.{BadProcessors, BadTask, BadMask}
use Rattle.trace_reader.specs.declared.fault.InputKind.TheVariants.{TaskRefused, BadEvent}
use Rattle.trace_reader.specs.declared.fault.InputKind.TheVariants.{UnknownTask, ManyEvents}
use Rattle.trace_reader.specs.declared.fault.InputKind.TheVariants.{AfterEnd, NoEnd}
use Rattle.trace_reader.specs.declared.fault.InputKind.TheVariants.{OutsideAffinity, OutOfMemory}
use Rattle.text_fields.specs.Lines.{lines_of}
use Rattle.text_fields.specs.LineRule.{IsLineOutcome}
use Rattle.text_fields.specs.Machine.{Fails}
use Rattle.trace_reader.specs.Lines.{said_by, IsClean}
use Rattle.trace_reader.specs.LineOutcome.{IsFieldsOutcome}
use Rattle.trace_reader.specs.Progress.{Progress, Expects, Ended}

-- the kind of a fault that any line may have
abbrev pub input_kind : LineKind → InputKind
input_kind line_kind.BadByte = BadByte
input_kind line_kind.LongLine = LongLine
input_kind line_kind.OutOfMemory = OutOfMemory

-- the fault of a line that is clean and not skipped, by what is expected
abbrev pub IsFieldsFault : Progress → List (List ℕ) → InputKind → Type 0
IsFieldsFault expected fields kind = IsFieldsOutcome expected fields (Fails kind)

-- the first fault of a line, by what is expected: a byte that is not plain, too many bytes, or else
-- one of its fields
abbrev pub IsLineFault : Progress → List ℕ → InputKind → Type 0
IsLineFault expected line kind =
    IsLineOutcome 4096 true input_kind IsFieldsOutcome expected line (Fails kind)

-- this line of the bytes has a fault, and none before it has one
pub record IsFirstFault (bytes : List ℕ) (number : ℕ) (kind : InputKind) : Type 0 where
  pub before : List (List ℕ)
  pub line : List ℕ
  pub after : List (List ℕ)
  pub expected : Progress
  pub order : lines_of bytes ≡ before ++ line ∷ after
  pub place : number ≡ length before + 1
  pub clean : All IsClean before
  pub expects : Expects (said_by before) expected
  pub fault : IsLineFault expected line kind

-- no line has a fault, and `end` does not come; this would be the number of the next line
pub record IsEndless (bytes : List ℕ) (number : ℕ) : Type 0 where
  pub expected : Progress
  pub clean : All IsClean (lines_of bytes)
  pub expects : Expects (said_by (lines_of bytes)) expected
  pub unended : (version : ℕ) (set : SetData) (events : List Posted)
      → expected ≢ Ended version set events
  pub place : number ≡ length (lines_of bytes) + 1

-- the bytes are refused with this line and kind, whichever version their header says
abbrev pub IsInputRefused : List ℕ → ℕ → InputKind → Type 0
IsInputRefused bytes number kind =
    IsFirstFault bytes number kind ⊎ (IsEndless bytes number × (kind ≡ NoEnd))

-- the number of a kind, as the program prints it; out of memory has none
abbrev pub kind_number : InputKind → Option ℕ
kind_number BadByte = Some 1
kind_number LongLine = Some 2
kind_number BadHeader = Some 3
kind_number BadProcessors = Some 4
kind_number BadTask = Some 5
kind_number (BadMask fault) = Some 6
kind_number (TaskRefused fault) = Some 7
kind_number BadEvent = Some 8
kind_number UnknownTask = Some 9
kind_number ManyEvents = Some 10
kind_number AfterEnd = Some 11
kind_number NoEnd = Some 12
kind_number (OutsideAffinity p) = Some 13
kind_number OutOfMemory = None

-- the kind of a task's refusal; out of memory is a kind of its own
abbrev pub kind_of_refusal : TaskFault → InputKind
kind_of_refusal task.OutOfMemory = OutOfMemory
kind_of_refusal fault = TaskRefused fault
