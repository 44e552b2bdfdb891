-- The text of a trace, read as what its used lines say of tasks. Its head is that of an input, and
-- its lines have the same faults, but for two: a switch that names no processor has not its form,
-- and no history is kept, so that no list of events is too long. In its place a moment is too late
-- that is 2^63 microseconds after the first change.
use Rattle.std.specs.Prelude.{◌≡◌, ℕ, ◌-◌, Bool, true, false, nat_eq, nat_lt, ◌||◌, is_some, List}
use Rattle.std.specs.Prelude.{[], ◌∷◌, ◌++◌, length, map, set, position, Option, None, Some}
use Rattle.std.specs.Prelude.{if◌then◌else◌}
use Rattle.task_set.specs.TaskSet.{SetData}
use Rattle.text_fields.specs.Lines.{lines_of, fields_of}
use Rattle.text_fields.specs.Machine.{Outcome, Leads, Fails}
use Rattle.text_fields.specs.Laws.{IsTextOf, IsRefused}
use Rattle.kernel_trace.specs.Stamp.{microsecond, clock_at}
use Rattle.kernel_trace.specs.TraceLine.{Said, Nothing, LostEvents, Malformed, Happened, said_by}
use Rattle.kernel_trace.specs.Processor.{processor_of}
use Rattle.kernel_trace.specs.Survey.{SurveyData, survey_of, is_gap}
use Rattle.kernel_trace.specs.Course.{CourseData, mention_of, is_unseen, is_backward, is_in_window}
use Rattle.kernel_trace.specs.Course.{agrees, says_ready, is_mentioned, standing_of, standing_after}
use Rattle.kernel_trace.specs.Course.{names_task}
use Rattle.kernel_trace.specs.TraceText.{Progress, HeaderExpected, ProcessorsExpected, Listed}
use Rattle.kernel_trace.specs.TraceText.{Tracing, LineOutcome, IsLine}
use Rattle.kernel_trace.specs.Unlisted.{with_said, number_read, settled_passage}
use Rattle.kernel_trace.specs.declared.change.Change.{Change}
use Rattle.kernel_trace.specs.declared.change.Change.TheVariants.{Wakeup, Switch}
use Rattle.trace_passages.specs.declared.passage.Readiness.{Readiness}
use Rattle.kernel_trace.specs.declared.change.Standing.{Standing}
use Rattle.trace_passages.specs.declared.passage.Passage.{Passage}
use Rattle.kernel_trace.specs.declared.task_change.TaskChange.{TaskChange}
use Rattle.kernel_trace.specs.declared.task_change.TaskChange.TheVariants as task
use Rattle.kernel_trace.specs.declared.task_trace.TaskTrace.TheInside.{Inside}
use Rattle.trace_passages.specs.declared.turn.Turn.{Turn}
use Rattle.trace_passages.specs.declared.turn.Turn.TheVariants as turn
use Rattle.kernel_trace.specs.declared.fault.TraceKind.{TraceKind}
use Rattle.kernel_trace.specs.declared.fault.TraceKind.TheVariants.{Lost, BadForm, Backward, Unseen}
use Rattle.kernel_trace.specs.declared.fault.TraceKind.TheVariants.{ManyEvents, NoEvents}
use Rattle.kernel_trace.specs.declared.fault.TraceKind.TheVariants.{Overwritten, NothingSaid}

-- ---- what a line says of tasks
-- the task of a thread
abbrev pub task_of : List ℕ → ℕ → Option ℕ
task_of ids id = position (nat_eq id) ids

-- what a change says of tasks, with the processor that its line names, where threads have these
-- numbers; a switch says nothing without it
abbrev pub task_change : List ℕ → (ℕ → Option ℕ) → Change → Option ℕ → Option TaskChange
task_change ids number (Wakeup id) processor = Some (task.Wakeup (task_of ids id))
task_change ids number (Switch from stays to) None = None
task_change ids number (Switch from stays to) (Some processor) =
    Some (task.Switch processor (number from.id) (number to.id))

-- what a wakeup of a task says of who runs, where it makes the task ready
abbrev pub woken_by : ℕ → Option Readiness → Option Turn
woken_by task None = None
woken_by task (Some mention) = Some (turn.Woken task)

-- what a line says of who runs where, by what it says of tasks and the mention that changes whether
-- its first task is ready
abbrev pub turn_of : TaskChange → Option Readiness → Option Turn
turn_of (task.Wakeup None) first = None
turn_of (task.Wakeup (Some woken)) first = woken_by woken first
turn_of (task.Switch processor from to) first = Some (turn.Switch processor from to)

-- the mention of the task that wakes up or leaves
abbrev pub first_mention : List ℕ → Change → Option Readiness
first_mention ids (Wakeup id) = mention_of ids id true
first_mention ids (Switch from stays to) = mention_of ids from.id stays

-- the mention of the task that comes
abbrev pub second_mention : List ℕ → Change → Option Readiness
second_mention ids (Wakeup id) = None
second_mention ids (Switch from stays to) = mention_of ids to.id true

-- a mention, where it changes whether its task is ready
abbrev pub changing : List Standing → Option Readiness → Option Readiness
changing standings None = None
changing standings (Some m) =
    if agrees (says_ready (standing_of standings m.task)) m.is_in then None else Some m

-- what the last mentions say after one more
abbrev pub marked : List Standing → Option Readiness → List Standing
marked standings None = standings
marked standings (Some m) = set standings m.task (standing_after m.is_in)

-- ---- what is known
-- what is expected and known of the trace, the time of the first change, in nanoseconds, the
-- passages so far, with the numbers that threads have while the text is read, and the threads that
-- are told apart so far
pub record FollowingData : Type 0 where
  pub progress : Progress
  pub start : Option ℕ
  pub passages : List Passage
  pub unlisted : List ℕ

-- a line leads on, or has a fault of a kind
abbrev pub FollowingOutcome : Type 0
FollowingOutcome = Outcome FollowingData TraceKind

-- nothing is read yet
abbrev pub nothing_followed : FollowingData
nothing_followed =
    record { progress = HeaderExpected; start = None; passages = []; unlisted = [] }

-- after a line at this time
abbrev pub at_time : CourseData → ℕ → CourseData
at_time c time =
    if is_in_window c.window time
    then record c { last = Some time; used = Some time }
    else record c { last = Some time }

-- after these mentions, where there are any
abbrev pub after_marks : CourseData → Option Readiness → Option Readiness → CourseData
after_marks c first second = record c { standings = marked (marked c.standings first) second }

-- ---- what a line of the trace comes to
-- the time of the first change: that of this line, where there was none before and this line has
-- one
abbrev pub start_after : Option ℕ → Bool → ℕ → Option ℕ
start_after (Some start) changes time = Some start
start_after None true time = Some time
start_after None false time = None

-- a passage more, where its moment is not too late
abbrev pub passage_outcome : FollowingData → ℕ → Passage → FollowingOutcome
passage_outcome f start passage =
    if nat_lt passage.moment 9223372036854775808
    then Leads (record f { start = Some start; passages = f.passages ++ passage ∷ [] })
    else Fails ManyEvents

-- the line is kept from the first change on
abbrev pub kept_outcome : FollowingData → Option ℕ → ℕ → TaskChange → Option Readiness
    → Option Readiness → FollowingOutcome
kept_outcome f None time told first second = Leads f
kept_outcome f (Some start) time told first second =
    passage_outcome f start (record {
      moment = microsecond time - microsecond start;
      turn = turn_of told first;
      first = first;
      second = second;
    })

-- the changes of the line are known
abbrev pub changed_outcome : FollowingData → ℕ → TaskChange → Option Readiness → Option Readiness
    → FollowingOutcome
changed_outcome f time told first second =
    kept_outcome f (start_after f.start (is_some first || is_some second) time)
    time told first second

-- the mentions of the line are followed
abbrev pub marked_outcome : FollowingData → CourseData → ℕ → TaskChange → Option Readiness
    → Option Readiness → FollowingOutcome
marked_outcome f c time told first second =
    changed_outcome (record f { progress = Tracing (after_marks c first second) }) time told
    (changing c.standings first)
    (changing (marked c.standings first) second)

-- the line is used: no wakeup is missing, and its threads may be told apart
abbrev pub used_outcome : FollowingData → CourseData → ℕ → Change → TaskChange → FollowingOutcome
used_outcome f c time change told =
    if is_unseen c.standings c.ids change
    then Fails Unseen
    else marked_outcome (record f { unlisted = with_said c.ids f.unlisted change }) c time told
    (first_mention c.ids change) (second_mention c.ids change)

-- the line is not less than the one before: it is used where it is in the window
abbrev pub timed_outcome : FollowingData → CourseData → ℕ → Change → TaskChange → FollowingOutcome
timed_outcome f c time change told =
    if is_in_window c.window time
    then used_outcome f (at_time c time) time change told
    else Leads (record f { progress = Tracing (at_time c time) })

-- the line has its form
abbrev pub told_outcome : FollowingData → CourseData → ℕ → Change → Option TaskChange
    → FollowingOutcome
told_outcome f c time change None = Fails BadForm
told_outcome f c time change (Some told) =
    if is_backward c.last time then Fails Backward else timed_outcome f c time change told

-- what a line comes to by what it says, and by the processor that it names
abbrev pub said_outcome : FollowingData → CourseData → Said → Option ℕ → FollowingOutcome
said_outcome f c Nothing processor = Leads f
said_outcome f c LostEvents processor = Fails Lost
said_outcome f c Malformed processor = Fails BadForm
said_outcome f c (Happened time change) processor =
    told_outcome f c time change (task_change c.ids (number_read c.ids) change processor)

-- what the fields of a line of the trace come to
abbrev pub fields_outcome : SurveyData → FollowingData → CourseData → List (List ℕ)
    → FollowingOutcome
fields_outcome look f c fields =
    if is_gap look c.window fields
    then Fails Overwritten
    else said_outcome f c (said_by look.waking fields) (processor_of look.waking fields)

-- ---- what a text comes to, line by line
-- what a line of the head comes to, by what it comes to for an input
abbrev pub head_outcome : FollowingData → LineOutcome → FollowingOutcome
head_outcome f (Leads next) = Leads (record f { progress = next })
head_outcome f (Fails kind) = Fails kind

-- a line of the head comes to what it comes to for an input
abbrev pub IsOfHead : FollowingData → (LineOutcome → Type 0) → FollowingOutcome → Type 0
IsOfHead f Comes outcome = (head : LineOutcome) × Comes head × (outcome ≡ head_outcome f head)

-- what a line comes to, by what is expected
abbrev pub IsLineAt : SurveyData → FollowingData → Progress → List ℕ → FollowingOutcome → Type 0
IsLineAt look f (Tracing c) line outcome = outcome ≡ fields_outcome look f c (fields_of line)
IsLineAt look f HeaderExpected line outcome = IsOfHead f (IsLine look HeaderExpected line) outcome
IsLineAt look f ProcessorsExpected line outcome =
    IsOfHead f (IsLine look ProcessorsExpected line) outcome
IsLineAt look f (Listed c) line outcome = IsOfHead f (IsLine look (Listed c) line) outcome

abbrev pub IsFollowed : SurveyData → FollowingData → List ℕ → FollowingOutcome → Type 0
IsFollowed look f line outcome = IsLineAt look f f.progress line outcome

-- what contracts see of a trace: its tasks, the microseconds of the first change by its own clock,
-- its passages, whether some used line named each task, and the ids of the threads that are told
-- apart
pub record TaskTraceData : Type 0 where
  pub set : SetData
  pub clock : Option ℕ
  pub passages : List Passage
  pub mentioned : List Bool
  pub unlisted : List ℕ

-- its stored parts
abbrev pub task_trace_view : Inside → TaskTraceData
task_trace_view a = record {
  set = a.set;
  clock = a.clock;
  passages = a.passages.items;
  mentioned = map is_mentioned a.standings.items;
  unlisted = a.unlisted;
}

-- the microseconds of a time, where there is one and they are less than 2^63
abbrev pub clock_of : Option ℕ → Option ℕ
clock_of None = None
clock_of (Some time) = clock_at time

-- the trace of what is known, with the numbers that threads have at the end
abbrev pub trace_of : FollowingData → CourseData → TaskTraceData
trace_of f c = record {
  set = c.set;
  clock = clock_of f.start;
  passages = map (settled_passage (length c.set.tasks) f.unlisted) f.passages;
  mentioned = map is_mentioned c.standings;
  unlisted = f.unlisted;
}

-- what the end of a trace comes to: it is faultless where some used line named a task
abbrev pub trace_end : FollowingData → CourseData → Outcome TaskTraceData TraceKind
trace_end f c = if names_task c.standings then Leads (trace_of f c) else Fails NothingSaid

-- what the end comes to, by what is expected: a trace ends where `events` came
abbrev pub IsEndAt : FollowingData → Progress → Outcome TaskTraceData TraceKind → Type 0
IsEndAt f (Tracing c) outcome = outcome ≡ trace_end f c
IsEndAt f HeaderExpected outcome = outcome ≡ Fails NoEvents
IsEndAt f ProcessorsExpected outcome = outcome ≡ Fails NoEvents
IsEndAt f (Listed c) outcome = outcome ≡ Fails NoEvents

abbrev pub IsFollowedEnd : FollowingData → Outcome TaskTraceData TraceKind → Type 0
IsFollowedEnd f outcome = IsEndAt f f.progress outcome

-- where this is said of the whole text, its lines come to these tasks and passages
abbrev pub IsTaskTextBy : SurveyData → List ℕ → TaskTraceData → Type 0
IsTaskTextBy look bytes trace =
    IsTextOf lines_of nothing_followed (IsFollowed look) IsFollowedEnd bytes trace

-- or they are refused with this line and kind
abbrev pub IsTaskRefusedBy : SurveyData → List ℕ → ℕ → TraceKind → Type 0
IsTaskRefusedBy look bytes number kind =
    IsRefused lines_of nothing_followed (IsFollowed look) IsFollowedEnd bytes number kind

-- the bytes are the text of a trace of these tasks and passages
abbrev pub IsTaskTraceText : List ℕ → TaskTraceData → Type 0
IsTaskTraceText bytes trace = IsTaskTextBy (survey_of (lines_of bytes)) bytes trace

-- the bytes are refused with this line and kind
abbrev pub IsTaskTraceRefused : List ℕ → ℕ → TraceKind → Type 0
IsTaskTraceRefused bytes number kind =
    IsTaskRefusedBy (survey_of (lines_of bytes)) bytes number kind

-- how many microseconds passed from the first change to the last used line
abbrev pub span_of : List Passage → ℕ
span_of [] = 0
span_of (passage ∷ []) = passage.moment
span_of (passage ∷ next ∷ rest) = span_of (next ∷ rest)
