-- The numbers of the kinds of faults, as the program prints them.
use Rattle.std.specs.Prelude.{ℕ, Option, Some, None}
use Rattle.task_set.specs.declared.fault.TaskFault.{TaskFault}
use Rattle.task_set.specs.declared.fault.TaskFault.TheVariants as task
use Rattle.text_fields.specs.declared.kind.LineKind.{LineKind}
use Rattle.text_fields.specs.declared.kind.LineKind.TheVariants as line
use Rattle.job_release.specs.declared.fault.JobKind.{JobKind}
use Rattle.job_release.specs.declared.fault.JobKind.TheVariants.{BadByte, LongLine, BadHeader}
use Rattle.job_release.specs.declared.fault.JobKind.TheVariants.{BadProcessors, BadHorizon, BadTask}
use Rattle.job_release.specs.declared.fault.JobKind.TheVariants.{BadMask, TaskRefused, BadJob}
use Rattle.job_release.specs.declared.fault.JobKind.TheVariants.{UnknownTask, Backward, ManyJobs}
use Rattle.job_release.specs.declared.fault.JobKind.TheVariants.{AfterEnd, NoEnd, OutOfMemory}

-- the number of a kind; out of memory has none
abbrev pub kind_number : JobKind → Option ℕ
kind_number BadByte = Some 1
kind_number LongLine = Some 2
kind_number BadHeader = Some 3
kind_number BadProcessors = Some 4
kind_number BadHorizon = Some 14
kind_number BadTask = Some 5
kind_number (BadMask fault) = Some 6
kind_number (TaskRefused fault) = Some 7
kind_number BadJob = Some 8
kind_number UnknownTask = Some 9
kind_number Backward = Some 19
kind_number ManyJobs = Some 15
kind_number AfterEnd = Some 11
kind_number NoEnd = Some 12
kind_number OutOfMemory = None

-- the kind of a task's refusal; out of memory is a kind of its own
abbrev pub kind_of_refusal : TaskFault → JobKind
kind_of_refusal task.OutOfMemory = OutOfMemory
kind_of_refusal fault = TaskRefused fault

-- the kind of a fault that any line may have
abbrev pub job_kind : LineKind → JobKind
job_kind line.BadByte = BadByte
job_kind line.LongLine = LongLine
job_kind line.OutOfMemory = OutOfMemory
