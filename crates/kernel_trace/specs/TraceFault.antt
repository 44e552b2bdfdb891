-- The numbers of the kinds of faults, as the program prints them.
use Rattle.std.specs.Prelude.{ℕ, Option, Some, None}
use Rattle.task_set.specs.declared.fault.TaskFault.{TaskFault}
use Rattle.task_set.specs.declared.fault.TaskFault.TheVariants as task
use Rattle.text_fields.specs.declared.kind.LineKind.{LineKind}
use Rattle.text_fields.specs.declared.kind.LineKind.TheVariants as line
use Rattle.kernel_trace.specs.declared.fault.TraceKind.{TraceKind}
use Rattle.kernel_trace.specs.declared.fault.TraceKind.TheVariants.{BadByte, LongLine, BadHeader}
use Rattle.kernel_trace.specs.declared.fault.TraceKind.TheVariants.{BadProcessors, BadTask, BadMask}
use Rattle.kernel_trace.specs.declared.fault.TraceKind.TheVariants.{TaskRefused, SamePid, BadWindow}
use Rattle.kernel_trace.specs.declared.fault.TraceKind.TheVariants.{BadHead, Lost, BadForm}
use Rattle.kernel_trace.specs.declared.fault.TraceKind.TheVariants.{Backward, Unseen, ManyEvents}
use Rattle.kernel_trace.specs.declared.fault.TraceKind.TheVariants.{NoEvents, Overwritten}
use Rattle.kernel_trace.specs.declared.fault.TraceKind.TheVariants.{NothingSaid, OutOfMemory}

-- the number of a kind; out of memory has none
abbrev pub kind_number : TraceKind → Option ℕ
kind_number BadByte = Some 1
kind_number LongLine = Some 2
kind_number BadHeader = Some 3
kind_number BadProcessors = Some 4
kind_number BadTask = Some 5
kind_number (BadMask fault) = Some 6
kind_number (TaskRefused fault) = Some 7
kind_number SamePid = Some 16
kind_number BadWindow = Some 17
kind_number BadHead = Some 8
kind_number Lost = Some 20
kind_number BadForm = Some 18
kind_number Backward = Some 19
kind_number Unseen = Some 21
kind_number ManyEvents = Some 10
kind_number NoEvents = Some 12
kind_number Overwritten = Some 22
kind_number NothingSaid = Some 23
kind_number OutOfMemory = None

-- the kind of a task's refusal; out of memory is a kind of its own
abbrev pub kind_of_refusal : TaskFault → TraceKind
kind_of_refusal task.OutOfMemory = OutOfMemory
kind_of_refusal fault = TaskRefused fault

-- the kind of a fault that any line of the head may have
abbrev pub trace_kind : LineKind → TraceKind
trace_kind line.BadByte = BadByte
trace_kind line.LongLine = LongLine
trace_kind line.OutOfMemory = OutOfMemory
