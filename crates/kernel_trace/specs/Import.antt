-- What an import is, in the words of the trace: the mentions of its used lines, the tasks that they
-- say are ready, and the events of the input.
use Rattle.std.specs.Prelude.{◌≡◌, ℕ, ◌+◌, ◌==◌, Bool, true, false, List, [], ◌∷◌, ◌++◌, length}
use Rattle.std.specs.Prelude.{take, map, fold, All, Option, None, Some, if◌then◌else◌}
use Rattle.std.specs.Option.{option_or}
use Rattle.task_set.specs.Event.{HasUnits}
use Rattle.task_set.specs.declared.event.Event.{Event}
use Rattle.task_set.specs.declared.event.Event.TheVariants.{Arrive, Depart, Tick, Affinity, Offline}
use Rattle.task_set.specs.declared.event.Event.TheVariants.{Online}
use Rattle.trace_reader.specs.Input.{InputData}
use Rattle.trace_reader.specs.declared.posted.Posted.{Posted}
use Rattle.text_fields.specs.Lines.{lines_of, fields_of}
use Rattle.text_fields.specs.Machine.{Leading}
use Rattle.kernel_trace.specs.Stamp.{microsecond}
use Rattle.kernel_trace.specs.Survey.{SurveyData, survey_of}
use Rattle.kernel_trace.specs.Course.{CourseData, WindowData, mentions, after_mentions, agrees}
use Rattle.kernel_trace.specs.Course.{is_in_window, standing_of}
use Rattle.kernel_trace.specs.TraceLine.{Said, Nothing, LostEvents, Malformed, Happened, said_by}
use Rattle.kernel_trace.specs.TraceText.{HeaderExpected, Listed, IsLine, IsTraceText, events_line}
use Rattle.trace_passages.specs.declared.passage.Readiness.{Readiness}
use Rattle.kernel_trace.specs.declared.change.Standing.TheVariants.{Unmentioned}

-- ---- lines without fault
-- after what a line says
abbrev pub after_said : CourseData → Said → CourseData
after_said c Nothing = c
after_said c LostEvents = c
after_said c Malformed = c
after_said c (Happened time change) =
    if is_in_window c.window time
    then after_mentions (record c { last = Some time; used = Some time }) (mentions c.ids change)
    else record c { last = Some time }

-- after some lines
abbrev pub course_after : Bool → CourseData → List (List ℕ) → CourseData
course_after waking c lines =
    fold (λ known line. after_said known (said_by waking (fields_of line))) c lines

-- ---- mentions
-- the mentions of a line, where it is used, by the thread ids and the window
abbrev pub mentions_said : List ℕ → Option WindowData → Said → List Readiness
mentions_said ids window Nothing = []
mentions_said ids window LostEvents = []
mentions_said ids window Malformed = []
mentions_said ids window (Happened time change) =
    if is_in_window window time then mentions ids change else []

-- the mentions of some lines, in their order
abbrev pub mentions_in : Bool → List ℕ → Option WindowData → List (List ℕ) → List Readiness
mentions_in waking ids window [] = []
mentions_in waking ids window (line ∷ rest) =
    mentions_said ids window (said_by waking (fields_of line)) ++ mentions_in waking ids window rest

-- what the last mention of a task says, where this was known before
abbrev pub mention_says : ℕ → Bool → Readiness → Bool
mention_says t before m = if m.task == t then m.is_in else before

-- whether the last mention of a task is in
abbrev pub is_last_in : ℕ → List Readiness → Bool
is_last_in t ms = fold (mention_says t) false ms

-- ---- changes
-- a mention that changes whether its task is ready, and the time of its line, in nanoseconds
pub record ReadyChange : Type 0 where
  pub time : ℕ
  pub mention : Readiness

-- those of some mentions at one time that say otherwise than the last mention of their task before
abbrev pub ready_changes : ℕ → List Readiness → List Readiness → List ReadyChange
ready_changes time before [] = []
ready_changes time before (m ∷ rest) =
    if agrees (is_last_in m.task before) m.is_in
    then ready_changes time (before ++ m ∷ []) rest
    else record { time = time; mention = m } ∷ ready_changes time (before ++ m ∷ []) rest

-- the changes of a line, where it is used; these mentions stand before it
abbrev pub changes_said : List ℕ → Option WindowData → List Readiness → Said → List ReadyChange
changes_said ids window before Nothing = []
changes_said ids window before LostEvents = []
changes_said ids window before Malformed = []
changes_said ids window before (Happened time change) =
    ready_changes time before (mentions_said ids window (Happened time change))

-- the changes of some lines, in their order; these mentions stand before them
abbrev pub changes_in : Bool → List ℕ → Option WindowData → List Readiness → List (List ℕ)
    → List ReadyChange
changes_in waking ids window before [] = []
changes_in waking ids window before (line ∷ rest) =
    let said = said_by waking (fields_of line) in
    changes_said ids window before said
    ++ changes_in waking ids window (before ++ mentions_said ids window said) rest

-- their mentions
abbrev pub changes_made : List ReadyChange → List Readiness
changes_made changes = map (λ (change : ReadyChange). change.mention) changes

-- their times
abbrev pub times_of : List ReadyChange → List ℕ
times_of changes = map (λ (change : ReadyChange). change.time) changes

-- ---- times
-- the time of a line, where it is used
abbrev pub time_said : Option WindowData → Said → List ℕ
time_said window Nothing = []
time_said window LostEvents = []
time_said window Malformed = []
time_said window (Happened time change) = if is_in_window window time then time ∷ [] else []

-- the times of the used lines among some lines, in their order
abbrev pub used_times : Bool → Option WindowData → List (List ℕ) → List ℕ
used_times waking window [] = []
used_times waking window (line ∷ rest) =
    time_said window (said_by waking (fields_of line)) ++ used_times waking window rest

-- the first of some times
abbrev pub first_time : List ℕ → Option ℕ
first_time [] = None
first_time (time ∷ rest) = Some time

-- the last of some times
abbrev pub last_time : List ℕ → Option ℕ
last_time [] = None
last_time (time ∷ rest) = option_or (last_time rest) (Some time)

-- from one time to another, in nanoseconds, pass so many microseconds; none pass where there is no
-- such time
abbrev pub Lasts : Option ℕ → Option ℕ → ℕ → Type 0
Lasts None to units = units ≡ 0
Lasts (Some from) None units = units ≡ 0
Lasts (Some from) (Some to) units = microsecond from + units ≡ microsecond to

-- ---- events
-- what an arrival or a departure says of its task
abbrev pub told_by : Event → List Readiness
told_by (Arrive t) = record { task = t; is_in = true } ∷ []
told_by (Depart t) = record { task = t; is_in = false } ∷ []
told_by (Tick units) = []
told_by (Affinity t mask) = []
told_by (Offline p) = []
told_by (Online p) = []

-- what the arrivals and departures of some events say, in their order
abbrev pub all_told : List Posted → List Readiness
all_told [] = []
all_told (posted ∷ rest) = told_by posted.event ++ all_told rest

-- whether a task is ready after an event
abbrev pub event_says : ℕ → Bool → Event → Bool
event_says t before (Arrive other) = if other == t then true else before
event_says t before (Depart other) = if other == t then false else before
event_says t before (Tick units) = before
event_says t before (Affinity other mask) = before
event_says t before (Offline p) = before
event_says t before (Online p) = before

-- whether a task is ready after some events
abbrev pub is_ready_after : ℕ → List Posted → Bool
is_ready_after t events = fold (λ before posted. event_says t before posted.event) false events

-- an event finds its task otherwise than it makes it
abbrev pub Changes : List Posted → Event → Type 0
Changes before (Arrive t) = is_ready_after t before ≡ false
Changes before (Depart t) = is_ready_after t before ≡ true
Changes before (Tick units) = Unit {0}
Changes before (Affinity t mask) = ⊥
Changes before (Offline p) = ⊥
Changes before (Online p) = ⊥

-- each of these events changes whether its task is ready, or lets time pass; these stand before
-- them
abbrev pub AllChange : List Posted → List Posted → Type 0
AllChange before [] = Unit {0}
AllChange before (posted ∷ rest) =
    Changes before posted.event × AllChange (before ++ posted ∷ []) rest

-- the units of an event
abbrev pub units_of : Event → ℕ
units_of (Tick units) = units
units_of (Arrive t) = 0
units_of (Depart t) = 0
units_of (Affinity t mask) = 0
units_of (Offline p) = 0
units_of (Online p) = 0

-- the units of some events
abbrev pub all_units : List Posted → ℕ
all_units [] = 0
all_units (posted ∷ rest) = units_of posted.event + all_units rest

-- ---- the import of a trace
-- the head says these tasks, of which no line was yet
pub record IsHead (c : CourseData) : Type 0 where
  pub no_line : c.last ≡ None
  pub no_event : c.clock ≡ None
  pub no_used : c.used ≡ None
  pub no_events : c.events ≡ []
  pub unmentioned : (t : ℕ) → standing_of c.standings t ≡ Unmentioned

-- the first events of an import are those of some first lines of its trace: their arrivals and
-- departures are the changes of the lines, the ready tasks those whose last mention is in, and
-- their ticks the time from the first change to the last one
pub record IsWrittenBy (waking : Bool) (ids : List ℕ) (window : Option WindowData)
    (lines : List (List ℕ)) (all : List Posted) : Type 0 where
  pub events : List Posted
  pub later : List Posted
  pub order : all ≡ events ++ later
  pub changes : all_told events ≡ changes_made (changes_in waking ids window [] lines)
  pub ready : (t : ℕ) → is_ready_after t events ≡ is_last_in t (mentions_in waking ids window lines)
  pub time : let times = times_of (changes_in waking ids window [] lines) in
      Lasts (first_time times) (last_time times) (all_units events)

-- the bytes are the lines of a head, the line `events` and the lines of a trace, and the input is
-- the import of that trace: it has the set of the head, and for each number n its first events are
-- those of the first n lines; its ticks are the time from the first change to the last used line;
-- each arrival or departure changes whether its task is ready, and no tick is too long
pub record IsImport (bytes : List ℕ) (input : InputData) : Type 0 where
  pub look : SurveyData
  pub surveyed : look ≡ survey_of (lines_of bytes)
  pub heading : List (List ℕ)
  pub opening : List ℕ
  pub lines : List (List ℕ)
  pub head : CourseData
  pub order : lines_of bytes ≡ heading ++ opening ∷ lines
  pub heads : Leading (IsLine look) HeaderExpected heading (Listed head)
  pub opens : fields_of opening ≡ events_line
  pub no_line : IsHead head
  pub version : input.version ≡ 1
  pub set : input.set ≡ head.set
  pub one_stream : All (λ (posted : Posted). posted.stream ≡ 0) input.events
  pub each : (n : ℕ) → IsWrittenBy look.waking head.ids head.window (take n lines) input.events
  pub time :
      let times = times_of (changes_in look.waking head.ids head.window [] lines) in
      Lasts (first_time times) (last_time (used_times look.waking head.window lines))
      (all_units input.events)
  pub changing : AllChange [] input.events
  pub short : All (λ (posted : Posted). HasUnits posted.event) input.events

-- ---- the laws of imports
-- after the events of some lines of a trace the ready tasks are those whose last mention is in, and
-- each event changes its task
abbrev pub ReadyAsMentioned : Type 0
ReadyAsMentioned =
    (waking : Bool) (head : CourseData) (lines : List (List ℕ)) → IsHead head
    → length head.standings ≡ length head.ids
    → ((t : ℕ) → is_ready_after t (course_after waking head lines).events
    ≡ is_last_in t (mentions_in waking head.ids head.window lines))
    × AllChange [] (course_after waking head lines).events

-- the input of the text of a trace is the import of that trace
abbrev pub ImportIsFaithful : Type 0
ImportIsFaithful =
    (bytes : List ℕ) (input : InputData) → IsTraceText bytes input → IsImport bytes input
