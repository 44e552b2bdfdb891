-- One step of the reader. Private: the contracts of this crate's own functions. The public one says
-- by the definitions of the text and of its faults what was read.
use Rattle.std.specs.Prelude.{◌≡◌, ℕ, ◌⊎◌, List, [], Option, Some, None, Result, IfOk, IfErr}
use Rattle.task_set.specs.TaskSet.{SetData}
use Rattle.task_set.specs.declared.context.Context.{Context}
use Rattle.strong_apa.specs.declared.reply.Entry.{Entry}
use Rattle.schedule_text.specs.Schedule.{ScheduleData}
use Rattle.schedule_text.specs.ScheduleFault.{IsScheduleRefused}
use Rattle.schedule_text.specs.Prefix.{Progress, HeaderExpected, ProcessorsExpected, TasksExpected}
use Rattle.schedule_text.specs.Prefix.{EntriesExpected, ContextsExpected, Ended}
use Rattle.schedule_text.specs.LineOutcome.{IsOutcome, pieces_of, IsPieceOutcome, IsEndOutcome}
use Rattle.text_fields.specs.Machine.{Leads, Fails}
use Rattle.text_fields.specs.Laws.{IsTextOf}
use Rattle.schedule_text.specs.declared.fault.TextFault.{TextFault}
use Rattle.schedule_text.specs.declared.fault.TextKind.{TextKind}
use Rattle.schedule_text.specs.declared.fault.TextKind.TheVariants.{OutOfMemory}
use Rattle.schedule_text.specs.declared.stage.Stage.{Stage}
use Rattle.schedule_text.specs.declared.stage.Stage.TheVariants as stage
use Rattle.schedule_text.specs.declared.stage.Listing.{Listing}
use Rattle.schedule_text.specs.declared.stage.Listing.TheVariants as listing
use Rattle.schedule_text.specs.declared.stage.Lists.{Lists}
use Rattle.schedule_text.specs.declared.stage.Reached.{Reached}
use Rattle.schedule_text.specs.declared.stage.Reached.TheVariants as reached

-- out of memory
abbrev pub IsOutOfMemory : TextKind → Type 0
IsOutOfMemory kind = kind ≡ OutOfMemory

-- ---- stages

-- what is expected where a list goes on
abbrev pub progress_of_list : Listing → ℕ → SetData → List Entry → List Context → Progress
progress_of_list listing.Tasks version set entries contexts = TasksExpected version set
progress_of_list (listing.Entries count) version set entries contexts =
    EntriesExpected version set count entries
progress_of_list listing.Contexts version set entries contexts =
    ContextsExpected version set entries contexts

-- what is expected where the lists are these
abbrev pub progress_of_lists : Lists → Progress
progress_of_lists lists =
    progress_of_list lists.list lists.version lists.set lists.entries.items lists.contexts.items

-- what is expected at a stage of the reader
abbrev pub progress_of : Stage → Progress
progress_of stage.HeaderExpected = HeaderExpected
progress_of (stage.ProcessorsExpected version) = ProcessorsExpected version
progress_of (stage.Listed lists) = progress_of_lists lists

-- what is expected after a line of the lists that more follow, and after the last one
abbrev pub progress_after_lists : Reached → Lists → Progress
progress_after_lists reached.Expected lists = progress_of_lists lists
progress_after_lists reached.End lists =
    Ended lists.version lists.set lists.entries.items lists.contexts.items

-- what is expected after a line that more follow, and after the last one; the end comes after lists
-- alone
abbrev pub progress_after : Reached → Stage → Progress
progress_after reached.Expected next = progress_of next
progress_after reached.End (stage.Listed lists) = progress_after_lists reached.End lists
progress_after reached.End _ = HeaderExpected

-- what is expected after the line of a task, or after the line that says how many entries there are
abbrev pub progress_after_task : ℕ → SetData → Option ℕ → Progress
progress_after_task version set None = TasksExpected version set
progress_after_task version set (Some count) = EntriesExpected version set count []

-- a line without fault leads from what is expected before it to what is expected after it
abbrev pub Says : Progress → List ℕ → Progress → Type 0
Says expected text next = IsOutcome expected text (Leads next)

-- out of memory, or the fault of a line
abbrev pub IsFaultOf : Progress → List ℕ → TextKind → Type 0
IsFaultOf expected text kind = IsOutOfMemory kind ⊎ IsOutcome expected text (Fails kind)

-- a reader answers a schedule of which the bytes are the text, or the first fault, unless it is out
-- of memory
abbrev pub IsAnswerTo : List ℕ → Result ScheduleData TextFault → Type 0
IsAnswerTo bytes result =
    IfOk result (IsTextOf pieces_of HeaderExpected IsPieceOutcome IsEndOutcome bytes)
    × IfErr result
    (λ fault. IsOutOfMemory fault.kind ⊎ IsScheduleRefused bytes fault.line fault.kind)
