-- The weak scheduler with the events that it was given, which are arrivals, departures and ticks.
use Rattle.std.specs.Prelude.{◌≡◌, List, [], ◌∷◌, ◌++◌}
use Rattle.task_set.specs.TaskSet.{SetData}
use Rattle.task_set.specs.declared.event.Event.{Event}
use Rattle.strong_apa.specs.State.{State, start_of}
use Rattle.weak_apa.specs.Step.{WeakStep}
use Rattle.job_release.specs.Scheduler.{SchedulerData, enough_room}
use Rattle.job_release.specs.WeakRuns.{IsRunFrom, begun_before, elapsed_at, last_state, state_then}
use Rattle.job_release.specs.declared.weak_history.WeakHistory.TheInside.{Inside}

-- what contracts see: the state at first, the events, and the state after each of them
pub record WeakHistoryData : Type 0 where
  pub start : State
  pub events : List Event
  pub states : List State

-- the state after all events
abbrev pub state_now : WeakHistoryData → State
state_now history = last_state history.start history.states

-- what holds of each value: the states are those of the weak scheduler
abbrev pub IsWeakHistory : WeakHistoryData → Type 0
IsWeakHistory history = IsRunFrom history.start history.events history.states

-- one event more
pub record Continues (old : WeakHistoryData) (event : Event) (new : WeakHistoryData) : Type 0 where
  pub start : new.start ≡ old.start
  pub events : new.events ≡ old.events ++ event ∷ []
  pub states : new.states ≡ old.states ++ state_now new ∷ []
  pub step : WeakStep (state_now old) event (state_now new)

-- before any event
abbrev pub begun_with : SetData → WeakHistoryData
begun_with set = record { start = start_of set; events = []; states = [] }

-- the stored parts
abbrev pub history_view : Inside → WeakHistoryData
history_view a =
    record { start = begun_before a.weak; events = a.events.items; states = a.states_so_far.0 }

-- the invariant of the fields
pub record AreWeakStepsKept (a : Inside) : Type 0 where
  pub runs : IsWeakHistory (history_view a)
  pub now : a.weak ≡ state_now (history_view a)

-- ---- as a scheduler of jobs
-- the events say the state of each moment
abbrev pub weak_seen : WeakHistoryData → SchedulerData
weak_seen history = record {
  start = history.start;
  now = state_now history;
  states = state_then history.start history.events history.states;
  elapsed = elapsed_at history.events;
  events = history.events;
  room = enough_room;
}
