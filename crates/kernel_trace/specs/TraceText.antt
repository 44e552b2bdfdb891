-- The text of a trace. First comes a head, whose lines are cut and skipped as those of input texts
-- are: a header, the number of processors, tasks with their thread ids and at most one window in
-- any order, and `events`. All further lines are the trace, of any bytes and any length. What a
-- line comes to is said by what is known: more is known then, or the line has a fault, the first of
-- its kinds in their order. The first line with a fault decides. What is said of the whole text is
-- known from the first line on.
use Rattle.std.specs.Prelude.{◌≡◌, ℕ, ◌+◌, ◌*◌, true, nat_eq, nat_lt, nat_le, ◌&&◌, List, [], ◌∷◌}
use Rattle.std.specs.Prelude.{◌++◌, length, codes, Option, None, Some, if◌then◌else◌}
use Rattle.std.specs.List.{list_any}
use Rattle.affinity_mask.specs.ListText.{IsListText}
use Rattle.affinity_mask.specs.ListFault.{IsListFault}
use Rattle.task_set.specs.TaskSet.{with_task}
use Rattle.task_set.specs.Refusal.{new_task, CanAdd, IsRefusal}
use Rattle.text_fields.specs.Number.{IsNumberWithin}
use Rattle.trace_reader.specs.Input.{InputData}
use Rattle.text_fields.specs.Choice.{IsOnly, IsChoice, IsReading, IsJudging, IsAllowing}
use Rattle.text_fields.specs.Lines.{lines_of, fields_of}
use Rattle.text_fields.specs.LineRule.{IsLineOutcome}
use Rattle.text_fields.specs.Machine.{Outcome, Leads, Fails}
use Rattle.text_fields.specs.Laws.{IsTextOf, IsRefused}
use Rattle.kernel_trace.specs.Stamp.{is_stamp, nanoseconds}
use Rattle.kernel_trace.specs.Survey.{SurveyData, survey_of, is_gap}
use Rattle.kernel_trace.specs.TraceLine.{Said, Nothing, LostEvents, Malformed, Happened, said_by}
use Rattle.kernel_trace.specs.Course.{CourseData, WindowData, mentions, is_unseen, written}
use Rattle.kernel_trace.specs.Course.{after_mentions, is_backward, is_in_window, names_task}
use Rattle.kernel_trace.specs.TraceFault.{trace_kind}
use Rattle.kernel_trace.specs.declared.change.Change.{Change}
use Rattle.kernel_trace.specs.declared.change.Standing.TheVariants.{Unmentioned}
use Rattle.kernel_trace.specs.declared.fault.TraceKind.{TraceKind}
use Rattle.kernel_trace.specs.declared.fault.TraceKind.TheVariants.{BadHeader, BadProcessors}
use Rattle.kernel_trace.specs.declared.fault.TraceKind.TheVariants.{BadTask, BadMask, TaskRefused}
use Rattle.kernel_trace.specs.declared.fault.TraceKind.TheVariants.{SamePid, BadWindow, BadHead}
use Rattle.kernel_trace.specs.declared.fault.TraceKind.TheVariants.{Lost, BadForm, Backward, Unseen}
use Rattle.kernel_trace.specs.declared.fault.TraceKind.TheVariants.{ManyEvents, NoEvents}
use Rattle.kernel_trace.specs.declared.fault.TraceKind.TheVariants.{Overwritten, NothingSaid}

-- ---- the lines of the head
-- a word, and a number between two bounds
abbrev pub IsWorded : List ℕ → ℕ → ℕ → ℕ → List (List ℕ) → Type 0
IsWorded word least most n fields =
    (number : List ℕ) × (fields ≡ word ∷ number ∷ []) × IsNumberWithin least most number n

-- the header: `trace` and a number of the value 1
abbrev pub IsHeader : ℕ → List (List ℕ) → Type 0
IsHeader version fields = IsWorded (codes "trace") 1 1 version fields

-- `processors` and how many there are, from 1 to 64
abbrev pub IsProcessorsLine : ℕ → List (List ℕ) → Type 0
IsProcessorsLine m fields = IsWorded (codes "processors") 1 64 m fields

-- what a task line says, with its list as it stands
pub record TaskLine : Type 0 where
  pub name : List ℕ
  pub level : ℕ
  pub list : List ℕ
  pub id : ℕ

-- `task`, any field for a name, the priority that the trace prints, to 4,194,303, any field for a
-- list, and a thread id from 1 to 4,194,304
pub record IsTaskForm (fields : List (List ℕ)) (line : TaskLine) : Type 0 where
  pub level : List ℕ
  pub id : List ℕ
  pub each_field : fields ≡ codes "task" ∷ line.name ∷ level ∷ line.list ∷ id ∷ []
  pub level_is : IsNumberWithin 0 4194303 level line.level
  pub id_is : IsNumberWithin 1 4194304 id line.id

-- the first field is this word
abbrev pub BeginsWith : List ℕ → List (List ℕ) → Type 0
BeginsWith word fields = (rest : List (List ℕ)) × (fields ≡ word ∷ rest)

-- the line after which the trace stands, `events` alone
abbrev pub events_line : List (List ℕ)
events_line = codes "events" ∷ []

-- the window of two stamps, of which the second is not less than the first
abbrev pub window_between : List ℕ → List ℕ → Option WindowData
window_between from to =
    if is_stamp from && is_stamp to && nat_le (nanoseconds from) (nanoseconds to)
    then Some (record { from = nanoseconds from; to = nanoseconds to })
    else None

-- the window that the fields of a line say
abbrev pub window_of : List (List ℕ) → Option WindowData
window_of (word ∷ from ∷ to ∷ []) = window_between from to
window_of fields = None

-- ---- what is known
-- the header is expected, or the processors; or tasks, a window or `events`; or the trace
pub data Progress : Type 0 where
  HeaderExpected : Progress
  ProcessorsExpected : Progress
  Listed : CourseData → Progress
  Tracing : CourseData → Progress

-- a line leads on, or has a fault of a kind
abbrev pub LineOutcome : Type 0
LineOutcome = Outcome Progress TraceKind

-- no task yet, on so many processors
abbrev pub without_tasks : ℕ → CourseData
without_tasks m = record {
  set = record { processors = m; tasks = [] };
  ids = [];
  window = None;
  last = None;
  clock = None;
  used = None;
  standings = [];
  events = [];
}

-- the priority of the next task: tasks of one kernel priority stand in the order of their lines
abbrev pub priority_of : CourseData → ℕ → ℕ
priority_of c level = 1024 * level + length c.set.tasks

-- one task more, of which no line was yet
abbrev pub with_listed : CourseData → TaskLine → ℕ → CourseData
with_listed c line mask = record c {
  set = with_task c.set (new_task line.name (priority_of c line.level) mask);
  ids = c.ids ++ line.id ∷ [];
  standings = c.standings ++ Unmentioned ∷ [];
}

-- ---- what a line of the head comes to
-- the task can be added: it is listed, where its thread id is new
abbrev pub id_outcome : CourseData → TaskLine → ℕ → LineOutcome
id_outcome c line mask = if list_any (nat_eq line.id) c.ids then Fails SamePid
    else Leads (Listed (with_listed c line mask))

-- the list is a mask: the task can be added, or the task set refuses it
abbrev pub IsAddOutcome : CourseData → TaskLine → ℕ → LineOutcome → Type 0
IsAddOutcome c line mask outcome =
    let task = new_task line.name (priority_of c line.level) mask in
    IsAllowing (CanAdd c.set task) (IsRefusal c.set task) (IsOnly (id_outcome c line mask))
    (λ fault. IsOnly (Fails (TaskRefused fault))) outcome

-- the line has the form of a task: its list is a mask, or has a fault
abbrev pub IsTaskOutcome : CourseData → TaskLine → LineOutcome → Type 0
IsTaskOutcome c line outcome =
    IsJudging (IsListText line.list) (IsListFault line.list) (IsAddOutcome c line)
    (λ fault. IsOnly (Fails (BadMask fault))) outcome

-- the line says a window, where there was none
abbrev pub window_outcome : CourseData → Option WindowData → Option WindowData → LineOutcome
window_outcome c None (Some window) = Leads (Listed (record c { window = Some window }))
window_outcome c None None = Fails BadWindow
window_outcome c (Some before) window = Fails BadWindow

-- a task, a window or `events` is expected
abbrev pub IsListedOutcome : CourseData → List (List ℕ) → LineOutcome → Type 0
IsListedOutcome c fields outcome =
    IsChoice (BeginsWith (codes "task") fields)
    (IsReading (IsTaskForm fields) (IsTaskOutcome c) (IsOnly (Fails BadTask)))
    (IsChoice (BeginsWith (codes "window") fields)
    (IsOnly (window_outcome c c.window (window_of fields)))
    (IsChoice (fields ≡ events_line) (IsOnly (Leads (Tracing c))) (IsOnly (Fails BadHead)))) outcome

-- a line with a word and a number leads on, or has this fault
abbrev pub IsWordedOutcome : (ℕ → Type 0) → (ℕ → Progress) → TraceKind → LineOutcome → Type 0
IsWordedOutcome Is next kind outcome =
    IsReading Is (λ n. IsOnly (Leads (next n))) (IsOnly (Fails kind)) outcome

-- what the fields of a line of the head come to, by what is known
abbrev pub IsHeadOutcome : Progress → List (List ℕ) → LineOutcome → Type 0
IsHeadOutcome HeaderExpected fields outcome =
    IsWordedOutcome (λ version. IsHeader version fields) (λ version. ProcessorsExpected)
    BadHeader outcome
IsHeadOutcome ProcessorsExpected fields outcome =
    IsWordedOutcome (λ m. IsProcessorsLine m fields) (λ m. Listed (without_tasks m))
    BadProcessors outcome
IsHeadOutcome (Listed c) fields outcome = IsListedOutcome c fields outcome
IsHeadOutcome (Tracing c) fields outcome = IsOnly (Leads (Tracing c)) outcome

-- ---- what a line of the trace comes to
-- the line was used: its input is not too long
abbrev pub counted_outcome : CourseData → LineOutcome
counted_outcome c =
    if nat_lt 20000 (length (written c)) then Fails ManyEvents else Leads (Tracing c)

-- the line is used: no wakeup is missing, and its mentions are followed
abbrev pub used_outcome : CourseData → Change → LineOutcome
used_outcome c change =
    if is_unseen c.standings c.ids change then Fails Unseen
    else counted_outcome (after_mentions c (mentions c.ids change))

-- the line is not less than the one before: it is used where it is in the window
abbrev pub timed_outcome : CourseData → ℕ → Change → LineOutcome
timed_outcome c time change =
    if is_in_window c.window time
    then used_outcome (record c { last = Some time; used = Some time }) change
    else Leads (Tracing (record c { last = Some time }))

-- what a line comes to by what it says
abbrev pub said_outcome : CourseData → Said → LineOutcome
said_outcome c Nothing = Leads (Tracing c)
said_outcome c LostEvents = Fails Lost
said_outcome c Malformed = Fails BadForm
said_outcome c (Happened time change) =
    if is_backward c.last time then Fails Backward else timed_outcome c time change

-- what the fields of a line of the trace come to
abbrev pub fields_outcome : SurveyData → CourseData → List (List ℕ) → LineOutcome
fields_outcome look c fields =
    if is_gap look c.window fields then Fails Overwritten
    else said_outcome c (said_by look.waking fields)

-- what a line of the trace comes to
abbrev pub trace_outcome : SurveyData → CourseData → List ℕ → LineOutcome
trace_outcome look c line = fields_outcome look c (fields_of line)

-- ---- what a text comes to, line by line
-- what a line comes to, by what is known
abbrev pub IsLine : SurveyData → Progress → List ℕ → LineOutcome → Type 0
IsLine look HeaderExpected line outcome =
    IsLineOutcome 4096 true trace_kind IsHeadOutcome HeaderExpected line outcome
IsLine look ProcessorsExpected line outcome =
    IsLineOutcome 4096 true trace_kind IsHeadOutcome ProcessorsExpected line outcome
IsLine look (Listed c) line outcome =
    IsLineOutcome 4096 true trace_kind IsHeadOutcome (Listed c) line outcome
IsLine look (Tracing c) line outcome = IsOnly (trace_outcome look c line) outcome

-- the input of what is known
abbrev pub input_of : CourseData → InputData
input_of c = record { version = 1; set = c.set; events = written c }

-- what the end of a trace comes to: it is faultless where some used line named a task
abbrev pub trace_end : CourseData → Outcome InputData TraceKind
trace_end c = if names_task c.standings then Leads (input_of c) else Fails NothingSaid

-- what the end comes to: a trace ends where `events` came
abbrev pub IsEndOutcome : Progress → Outcome InputData TraceKind → Type 0
IsEndOutcome (Tracing c) outcome = outcome ≡ trace_end c
IsEndOutcome HeaderExpected outcome = outcome ≡ Fails NoEvents
IsEndOutcome ProcessorsExpected outcome = outcome ≡ Fails NoEvents
IsEndOutcome (Listed c) outcome = outcome ≡ Fails NoEvents

-- where this is said of the whole text, its lines come to this input
abbrev pub IsTextBy : SurveyData → List ℕ → InputData → Type 0
IsTextBy look bytes input = IsTextOf lines_of HeaderExpected (IsLine look) IsEndOutcome bytes input

-- or they are refused with this line and kind
abbrev pub IsRefusedBy : SurveyData → List ℕ → ℕ → TraceKind → Type 0
IsRefusedBy look bytes number kind =
    IsRefused lines_of HeaderExpected (IsLine look) IsEndOutcome bytes number kind

-- the bytes are the text of a trace, of which this input comes
abbrev pub IsTraceText : List ℕ → InputData → Type 0
IsTraceText bytes input = IsTextBy (survey_of (lines_of bytes)) bytes input

-- the bytes are refused with this line and kind
abbrev pub IsTraceRefused : List ℕ → ℕ → TraceKind → Type 0
IsTraceRefused bytes number kind = IsRefusedBy (survey_of (lines_of bytes)) bytes number kind
