-- What the passages of a trace are, in the words of the trace: its used lines from the first change
-- on, with what they say of who runs where and which of their mentions change whether a task is
-- ready.
use Rattle.std.specs.Prelude.{◌≡◌, ℕ, ◌+◌, ◌-◌, ◌<◌, ◌≤◌, ◌==◌, Bool, false, ◌||◌, is_some, List}
use Rattle.std.specs.Prelude.{[]}
use Rattle.std.specs.Prelude.{◌∷◌, ◌++◌, length, take, map, fold, All, Option, None, Some}
use Rattle.std.specs.Prelude.{option_to_list}
use Rattle.std.specs.Prelude.{slice_index_or, if◌then◌else◌}
use Rattle.std.specs.List.{list_any}
use Rattle.text_fields.specs.Lines.{lines_of, fields_of}
use Rattle.text_fields.specs.Machine.{Leading}
use Rattle.kernel_trace.specs.Stamp.{microsecond}
use Rattle.kernel_trace.specs.Survey.{SurveyData, survey_of}
use Rattle.kernel_trace.specs.Course.{CourseData, WindowData, agrees, is_in_window}
use Rattle.kernel_trace.specs.Import.{mentions_said, mentions_in, is_last_in, IsHead}
use Rattle.kernel_trace.specs.Passage.{task_of, task_change, first_mention, second_mention, turn_of}
use Rattle.kernel_trace.specs.Passage.{clock_of, TaskTraceData, IsTaskTraceText}
use Rattle.kernel_trace.specs.Processor.{processor_of}
use Rattle.kernel_trace.specs.TraceLine.{Said, Nothing, LostEvents, Malformed, Happened, said_by}
use Rattle.kernel_trace.specs.TraceText.{HeaderExpected, Listed, IsLine, events_line}
use Rattle.kernel_trace.specs.Unlisted.{with_said, number_of}
use Rattle.kernel_trace.specs.declared.change.Change.{Change}
use Rattle.trace_passages.specs.declared.passage.Readiness.{Readiness}
use Rattle.trace_passages.specs.declared.passage.Passage.{Passage}
use Rattle.kernel_trace.specs.declared.task_change.TaskChange.{TaskChange}
use Rattle.trace_passages.specs.Passages as shared

-- ---- used lines
-- a used line: when, in nanoseconds, what it says, what it says of tasks, and those of its mentions
-- that change whether a task is ready
pub record UsedLine : Type 0 where
  pub time : ℕ
  pub said : Change
  pub change : TaskChange
  pub first : Option Readiness
  pub second : Option Readiness

-- a mention, where it says otherwise than the last mention of its task before
abbrev pub turning : List Readiness → Option Readiness → Option Readiness
turning before None = None
turning before (Some m) = if agrees (is_last_in m.task before) m.is_in then None else Some m

-- a used line, by the mentions before it
abbrev pub used_line : List ℕ → List Readiness → ℕ → Change → TaskChange → UsedLine
used_line ids before time change told = record {
  time = time;
  said = change;
  change = told;
  first = turning before (first_mention ids change);
  second =
      turning (before ++ option_to_list (first_mention ids change)) (second_mention ids change);
}

-- the line, where it says something of tasks
abbrev pub used_told : List ℕ → List Readiness → ℕ → Change → Option TaskChange → List UsedLine
used_told ids before time change None = []
used_told ids before time change (Some told) = used_line ids before time change told ∷ []

-- the line, where it is used and threads have these numbers
abbrev pub used_said : List ℕ → (ℕ → Option ℕ) → Option WindowData → List Readiness → Said
    → Option ℕ → List UsedLine
used_said ids number window before Nothing processor = []
used_said ids number window before LostEvents processor = []
used_said ids number window before Malformed processor = []
used_said ids number window before (Happened time change) processor =
    if is_in_window window time then used_told ids before time change
    (task_change ids number change processor) else []

-- the used ones of some lines, in their order; these mentions stand before them
abbrev pub used_lines : Bool → List ℕ → (ℕ → Option ℕ) → Option WindowData → List Readiness
    → List (List ℕ) → List UsedLine
used_lines waking ids number window before [] = []
used_lines waking ids number window before (line ∷ rest) =
    let said = said_by waking (fields_of line) in
    used_said ids number window before said (processor_of waking (fields_of line))
    ++ used_lines waking ids number window (before ++ mentions_said ids window said) rest

-- some mention changes whether a task is ready
abbrev pub turns : UsedLine → Bool
turns line = is_some line.first || is_some line.second

-- the lines from the first one on of which some mention does
abbrev pub from_turn : List UsedLine → List UsedLine
from_turn [] = []
from_turn (line ∷ rest) = if turns line then line ∷ rest else from_turn rest

-- the time of the first of some lines
abbrev pub first_use : List UsedLine → Option ℕ
first_use [] = None
first_use (line ∷ rest) = Some line.time

-- ---- threads that are told apart
-- the threads that some used lines tell apart, in the order in which these name them
abbrev pub unlisted_of : List ℕ → List UsedLine → List ℕ
unlisted_of ids used = fold (λ known (line : UsedLine). with_said ids known line.said) [] used

-- those of some lines of a trace; which numbers threads have says nothing of it
abbrev pub unlisted_in : Bool → List ℕ → Option WindowData → List (List ℕ) → List ℕ
unlisted_in waking ids window lines =
    unlisted_of ids (used_lines waking ids (task_of ids) window [] lines)

-- ---- tasks that are named
-- some mention is of a task
abbrev pub is_named_in : ℕ → List Readiness → Bool
is_named_in t ms = list_any (λ (m : Readiness). m.task == t) ms

-- ---- passages
-- a line, with its microseconds since a time
abbrev pub passage_since : ℕ → UsedLine → Passage
passage_since start line = record {
  moment = microsecond line.time - microsecond start;
  turn = turn_of line.change line.first;
  first = line.first;
  second = line.second;
}

-- the lines, with their microseconds since the first of them
abbrev pub passages_since : List UsedLine → List Passage
passages_since [] = []
passages_since (line ∷ rest) = map (passage_since line.time) (line ∷ rest)

-- the passages of some lines of a trace, where threads have these numbers
abbrev pub passages_in : Bool → List ℕ → (ℕ → Option ℕ) → Option WindowData → List (List ℕ)
    → List Passage
passages_in waking ids number window lines =
    passages_since (from_turn (used_lines waking ids number window [] lines))

-- the changes of some passages, in their order
abbrev pub all_changes : List Passage → List Readiness
all_changes [] = []
all_changes (passage ∷ rest) =
    option_to_list passage.first ++ option_to_list passage.second ++ all_changes rest

-- each mention says otherwise than the last mention of its task before; these stand before them
abbrev pub AllTurn : List Readiness → List Readiness → Type 0
AllTurn before [] = Unit {0}
AllTurn before (m ∷ rest) =
    (agrees (is_last_in m.task before) m.is_in ≡ false) × AllTurn (before ++ m ∷ []) rest

-- no moment is less than the one before it
abbrev pub NeverFall : ℕ → List Passage → Type 0
NeverFall moment [] = Unit {0}
NeverFall moment (passage ∷ rest) = (moment ≤ passage.moment) × NeverFall passage.moment rest

-- the passage is of the first so many tasks and threads, and its moment is not too late
pub record IsPassageOf (tasks threads : ℕ) (passage : Passage) : Type 0 where
  pub numbers : shared.IsPassageOf tasks threads passage
  pub moment : passage.moment < 9223372036854775808

-- ---- the passages of a trace
-- the first passages are those of some first lines, and after them the ready tasks are those whose
-- last mention is in
pub record ArePassagesOf (waking : Bool) (ids : List ℕ) (number : ℕ → Option ℕ)
    (window : Option WindowData) (lines : List (List ℕ)) (all : List Passage) : Type 0 where
  pub passages : List Passage
  pub later : List Passage
  pub order : all ≡ passages ++ later
  pub exact : passages ≡ passages_in waking ids number window lines
  pub ready : (t : ℕ) → is_last_in t (all_changes passages)
      ≡ is_last_in t (mentions_in waking ids window lines)

-- the bytes are the lines of a head, the line `events` and the lines of a trace, and the trace has
-- the set of the head and the passages of its lines: for each number n, the first passages are
-- those of the first n lines; no moment is less than the one before; and each change is one. They
-- are of the tasks of the set and of the threads that the used lines tell apart, and begin at
-- moment 0. The clock is that of the first used line that has a change, and a task is mentioned
-- where some used line mentions it
pub record IsTaskTrace (bytes : List ℕ) (trace : TaskTraceData) : Type 0 where
  pub look : SurveyData
  pub surveyed : look ≡ survey_of (lines_of bytes)
  pub heading : List (List ℕ)
  pub opening : List ℕ
  pub lines : List (List ℕ)
  pub head : CourseData
  pub order : lines_of bytes ≡ heading ++ opening ∷ lines
  pub heads : Leading (IsLine look) HeaderExpected heading (Listed head)
  pub opens : fields_of opening ≡ events_line
  pub no_line : IsHead head
  pub set : trace.set ≡ head.set
  pub clock : trace.clock ≡ clock_of
      (first_use (from_turn (used_lines look.waking head.ids (task_of head.ids) head.window []
      lines)))
  pub unlisted : trace.unlisted ≡ unlisted_in look.waking head.ids head.window lines
  pub few : length trace.unlisted ≤ 1024
  pub passages : trace.passages
      ≡ passages_in look.waking head.ids (number_of head.ids trace.unlisted) head.window lines
  pub counted : length trace.mentioned ≡ length trace.set.tasks
  pub mentioned : (t : ℕ) → slice_index_or trace.mentioned t false
      ≡ is_named_in t (mentions_in look.waking head.ids head.window lines)
  pub each : (n : ℕ) → ArePassagesOf look.waking head.ids (number_of head.ids trace.unlisted)
      head.window (take n lines) trace.passages
  pub rising : NeverFall 0 trace.passages
  pub changing : AllTurn [] (all_changes trace.passages)
  pub of_set : All (IsPassageOf (length trace.set.tasks)
      (length trace.set.tasks + length trace.unlisted)) trace.passages
  pub in_order : shared.ArePassages (length trace.set.tasks)
      (length trace.set.tasks + length trace.unlisted) trace.passages

-- what is read of a trace are its passages
abbrev pub PassagesAreFaithful : Type 0
PassagesAreFaithful =
    (bytes : List ℕ) (trace : TaskTraceData) → IsTaskTraceText bytes trace → IsTaskTrace bytes trace
