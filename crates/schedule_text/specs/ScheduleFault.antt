-- Why a text is not a schedule. The text is read line by line, and the first line that has a fault
-- decides: none comes, or it is not of the expected form, or its task is refused, or it names a
-- task that there is not; after the last line nothing may stand. What a line comes to follows from
-- its fields and from what the lines before it said (specs/LineOutcome.antt). The header says the
-- version of all lines after it, and what that version does not have is of no form.
use Rattle.std.specs.Prelude.{ℕ, List, Option, Some, None}
use Rattle.task_set.specs.declared.fault.TaskFault.{TaskFault}
use Rattle.task_set.specs.declared.fault.TaskFault.TheVariants as task
use Rattle.text_fields.specs.Laws.{IsRefused}
use Rattle.schedule_text.specs.Prefix.{HeaderExpected}
use Rattle.schedule_text.specs.LineOutcome.{pieces_of, IsPieceOutcome, IsEndOutcome}
use Rattle.schedule_text.specs.declared.fault.TextKind.{TextKind}
use Rattle.schedule_text.specs.declared.fault.TextKind.TheVariants.{BadLine, TaskRefused}
use Rattle.schedule_text.specs.declared.fault.TextKind.TheVariants.{UnknownTask, Short, AfterEnd}
use Rattle.schedule_text.specs.declared.fault.TextKind.TheVariants.{OutOfMemory}

-- the bytes are refused with this line and kind
abbrev pub IsScheduleRefused : List ℕ → ℕ → TextKind → Type 0
IsScheduleRefused bytes number kind =
    IsRefused pieces_of HeaderExpected IsPieceOutcome IsEndOutcome bytes number kind

-- the number of a kind, as the program prints it; out of memory has none
abbrev pub kind_number : TextKind → Option ℕ
kind_number BadLine = Some 21
kind_number (TaskRefused fault) = Some 22
kind_number UnknownTask = Some 23
kind_number Short = Some 24
kind_number AfterEnd = Some 25
kind_number OutOfMemory = None

-- the kind of a task's refusal; out of memory is a kind of its own
abbrev pub kind_of_refusal : TaskFault → TextKind
kind_of_refusal task.OutOfMemory = OutOfMemory
kind_of_refusal fault = TaskRefused fault
