-- Histories in which each task and each processor has the same events, in the same order, and those
-- of different ones come in any order. So it is with merges of events on streams where all events
-- of a task are on one stream, and all of a processor.
use Rattle.std.specs.Prelude.{◌≡◌, ℕ, Bool, true, false, ◌==◌, List, map, filter, All}
use Rattle.task_set.specs.TaskSet.{SetData, IsTaskSet}
use Rattle.task_set.specs.declared.event.Event.{Event}
use Rattle.task_set.specs.declared.event.Event.TheVariants.{Arrive, Depart, Tick, Affinity, Offline}
use Rattle.task_set.specs.declared.event.Event.TheVariants.{Online}
use Rattle.strong_apa.specs.declared.reply.Entry.{Entry}
use Rattle.strong_apa.specs.State.{start_of, is_ready, is_linked}
use Rattle.strong_apa.specs.History.{IsLegal, state_after}

-- whether an event is of the task t
abbrev pub is_of_task : ℕ → Event → Bool
is_of_task t (Arrive u) = u == t
is_of_task t (Depart u) = u == t
is_of_task t (Affinity u mask) = u == t
is_of_task t (Tick units) = false
is_of_task t (Offline p) = false
is_of_task t (Online p) = false

-- whether it is of the processor p
abbrev pub is_of_processor : ℕ → Event → Bool
is_of_processor p (Offline q) = q == p
is_of_processor p (Online q) = q == p
is_of_processor p (Arrive t) = false
is_of_processor p (Depart t) = false
is_of_processor p (Affinity t mask) = false
is_of_processor p (Tick units) = false

-- the events of a history that pass a test, in their order
abbrev pub events_that : (Event → Bool) → List Entry → List Event
events_that test history = filter test (map (λ (entry : Entry). entry.event) history)

-- the events of a caller, in their order
abbrev pub events_by : ℕ → List Entry → List Event
events_by caller history = map (λ (entry : Entry). entry.event)
    (filter (λ (entry : Entry). entry.caller == caller) history)

-- two histories have the same events of each task and of each processor, in the same order
pub record HaveSameEvents (one other : List Entry) : Type 0 where
  pub of_task : (t : ℕ) → events_that (is_of_task t) one ≡ events_that (is_of_task t) other
  pub of_processor : (p : ℕ) → events_that (is_of_processor p) one
      ≡ events_that (is_of_processor p) other

-- all events that pass a test are of one caller
abbrev pub AreBy : (Event → Bool) → ℕ → List Entry → Type 0
AreBy test caller history =
    All (λ (entry : Entry). test entry.event ≡ true → entry.caller ≡ caller) history

-- all events of a task are of one caller, and all of a processor
pub record HaveCallers (of_task of_processor : ℕ → ℕ) (history : List Entry) : Type 0 where
  pub tasks : (t : ℕ) → AreBy (is_of_task t) (of_task t) history
  pub processors : (p : ℕ) → AreBy (is_of_processor p) (of_processor p) history

-- two legal histories with the same events of each task and of each processor end with the same
-- tasks ready and linked
abbrev pub SameEventsHaveOneEnd : Type 0
SameEventsHaveOneEnd = (set : SetData) (one other : List Entry) → IsTaskSet set → IsLegal set one
    → IsLegal set other → HaveSameEvents one other
    → (t : ℕ) → (is_ready (state_after (start_of set) one) t
    ≡ is_ready (state_after (start_of set) other) t)
    × (is_linked (state_after (start_of set) one) t
    ≡ is_linked (state_after (start_of set) other) t)

-- where each task and each processor has one caller, two histories with the same events of each
-- caller have the same events of each task and of each processor
abbrev pub CallersGiveSameEvents : Type 0
CallersGiveSameEvents = (of_task of_processor : ℕ → ℕ) (one other : List Entry)
    → HaveCallers of_task of_processor one → HaveCallers of_task of_processor other
    → ((caller : ℕ) → events_by caller one ≡ events_by caller other) → HaveSameEvents one other
