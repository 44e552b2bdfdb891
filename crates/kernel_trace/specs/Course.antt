-- What is known after some lines of a trace. A line mentions tasks as in or out; a task is ready
-- where its last mention says in. Where a task's readiness changes, first the time since the last
-- event is written as ticks, and then its arrival or departure.
use Rattle.std.specs.Prelude.{ℕ, ◌-◌, ◌/◌, ◌%◌, Bool, true, false, ◌==◌, nat_eq, nat_lt, nat_le}
use Rattle.std.specs.Prelude.{◌&&◌, ◌||◌, List, [], ◌∷◌, ◌++◌, get_or, set, replicate, fold}
use Rattle.std.specs.Prelude.{position, Option, None, Some, option_to_list, if◌then◌else◌}
use Rattle.std.specs.List.{list_any}
use Rattle.std.specs.Option.{option_map}
use Rattle.task_set.specs.TaskSet.{SetData}
use Rattle.task_set.specs.declared.event.Event.{Event}
use Rattle.task_set.specs.declared.event.Event.TheVariants.{Arrive, Depart, Tick}
use Rattle.trace_reader.specs.declared.posted.Posted.{Posted}
use Rattle.kernel_trace.specs.Stamp.{microsecond}
use Rattle.kernel_trace.specs.declared.change.Change.{Change}
use Rattle.kernel_trace.specs.declared.change.Change.TheVariants.{Wakeup, Switch}
use Rattle.trace_passages.specs.declared.passage.Readiness.{Readiness}
use Rattle.kernel_trace.specs.declared.change.Standing.{Standing}
use Rattle.kernel_trace.specs.declared.change.Standing.TheVariants.{Unmentioned, Ready, Absent}

-- the times between which lines are used, in nanoseconds, both included
pub record WindowData : Type 0 where
  pub from : ℕ
  pub to : ℕ

-- what is known: the tasks, their thread ids, the window, the time of the last line of the
-- scheduler, that of the last event and of the last used line, in nanoseconds, each task's last
-- mention, and the events so far
pub record CourseData : Type 0 where
  pub set : SetData
  pub ids : List ℕ
  pub window : Option WindowData
  pub last : Option ℕ
  pub clock : Option ℕ
  pub used : Option ℕ
  pub standings : List Standing
  pub events : List Posted

-- ---- mentions
-- the task of a thread, mentioned as in or out; other threads are nobody's
abbrev pub mention_of : List ℕ → ℕ → Bool → Option Readiness
mention_of ids id is_in =
    option_map (λ task. record { task = task; is_in = is_in }) (position (nat_eq id) ids)

-- the mentions of a change, in their order
abbrev pub mentions : List ℕ → Change → List Readiness
mentions ids (Wakeup id) = option_to_list (mention_of ids id true)
mentions ids (Switch from stays to) =
    option_to_list (mention_of ids from.id stays) ++ option_to_list (mention_of ids to.id true)

-- what a mention says of a task
abbrev pub standing_after : Bool → Standing
standing_after true = Ready
standing_after false = Absent

abbrev pub says_ready : Standing → Bool
says_ready Ready = true
says_ready Absent = false
says_ready Unmentioned = false

abbrev pub is_absent : Standing → Bool
is_absent Absent = true
is_absent Ready = false
is_absent Unmentioned = false

abbrev pub is_mentioned : Standing → Bool
is_mentioned Ready = true
is_mentioned Absent = true
is_mentioned Unmentioned = false

-- some task was mentioned
abbrev pub names_task : List Standing → Bool
names_task standings = list_any is_mentioned standings

-- whether a task is ready, and a mention says so too, or neither
abbrev pub agrees : Bool → Bool → Bool
agrees true is_in = is_in
agrees false true = false
agrees false false = true

-- the standing of a task
abbrev pub standing_of : List Standing → ℕ → Standing
standing_of standings task = get_or standings task Unmentioned

-- some mention is of a task that was mentioned and is not ready
abbrev pub misses_wakeup : List Standing → List Readiness → Bool
misses_wakeup standings [] = false
misses_wakeup standings (m ∷ rest) =
    is_absent (standing_of standings m.task)
    || misses_wakeup (set standings m.task (standing_after m.is_in)) rest

-- a switch mentions such a task
abbrev pub is_unseen : List Standing → List ℕ → Change → Bool
is_unseen standings ids (Wakeup id) = false
is_unseen standings ids (Switch from stays to) =
    misses_wakeup standings (mentions ids (Switch from stays to))

-- ---- what is written
-- an event on the first stream
abbrev pub on_first_stream : Event → Posted
on_first_stream event = record { stream = 0; event = event }

-- so many units that are left
abbrev pub last_tick : ℕ → List Posted
last_tick units = if units == 0 then [] else on_first_stream (Tick units) ∷ []

-- ticks for so many microseconds: all but the last have 1,000,000 units
unfoldable pub ticks : ℕ → List Posted
ticks units =
    replicate (units / 1000000) (on_first_stream (Tick 1000000)) ++ last_tick (units % 1000000)

-- the microseconds from one time to another
abbrev pub between : Option ℕ → Option ℕ → ℕ
between None to = 0
between (Some from) None = 0
between (Some from) (Some to) = microsecond to - microsecond from

-- the microseconds since the last event, up to the last used line
abbrev pub passed : CourseData → ℕ
passed c = between c.clock c.used

-- the events up to the last used line
abbrev pub written : CourseData → List Posted
written c = c.events ++ ticks (passed c)

-- the event of a mention
abbrev pub event_of : Readiness → Event
event_of m = if m.is_in then Arrive m.task else Depart m.task

-- after a mention
abbrev pub after_mention : CourseData → Readiness → CourseData
after_mention c m =
    if agrees (says_ready (standing_of c.standings m.task)) m.is_in
    then record c { standings = set c.standings m.task (standing_after m.is_in) }
    else record c {
      standings = set c.standings m.task (standing_after m.is_in);
      clock = c.used;
      events = written c ++ on_first_stream (event_of m) ∷ [];
    }

-- after the mentions of a line, one after another
abbrev pub after_mentions : CourseData → List Readiness → CourseData
after_mentions c ms = fold after_mention c ms

-- ---- time
-- a time is less than that of the last line
abbrev pub is_backward : Option ℕ → ℕ → Bool
is_backward None time = false
is_backward (Some last) time = nat_lt time last

-- a time is in the window; without one each is
abbrev pub is_in_window : Option WindowData → ℕ → Bool
is_in_window None time = true
is_in_window (Some window) time = nat_le window.from time && nat_le time window.to
