-- What contracts see of a scheduler that jobs are driven with, and what an event leaves of it. A
-- task becomes ready or absent, or time passes; which tasks are linked then is the scheduler's own
-- affair.
use Rattle.std.specs.Prelude.{◌≡◌, ◌≢◌, ℕ, ◌+◌, ◌<◌, ◌≤◌, Bool, List, [], ◌∷◌, ◌++◌}
use Rattle.task_set.specs.TaskSet.{SetData}
use Rattle.strong_apa.specs.State.{State, IsState, start_of, task_count, is_ready}
use Rattle.task_set.specs.declared.event.Event.{Event}
use Rattle.task_set.specs.declared.event.Event.TheVariants.{Tick}
use Rattle.job_release.specs.EventOrder.{event_of}
use Rattle.job_release.specs.Moments.{Timeline}

-- the state in which it began, the state now, the state of each moment that has passed, how many
-- have passed, the events that it was given, and for how many more there is room
pub record SchedulerData : Type 0 where
  pub start : State
  pub now : State
  pub states : Timeline
  pub elapsed : ℕ
  pub events : List Event
  pub room : ℕ

-- so many events are enough for all jobs of an input: their arrivals and departures, and the ticks
-- between
abbrev pub enough_room : ℕ
enough_room = 20000

-- a scheduler of these tasks before any event, with room for all
pub record IsNewFor (set : SetData) (scheduler : SchedulerData) : Type 0 where
  pub start : scheduler.start ≡ start_of set
  pub now : scheduler.now ≡ start_of set
  pub elapsed : scheduler.elapsed ≡ 0
  pub events : scheduler.events ≡ []
  pub room : enough_room ≤ scheduler.room

-- what an event leaves: the start, the tasks, the moments that have passed, and the room for all
-- events but one
pub record Keeps (old new : SchedulerData) : Type 0 where
  pub start : new.start ≡ old.start
  pub past : (x : ℕ) → x < old.elapsed → new.states x ≡ old.states x
  pub room : old.room ≤ new.room + 1
  pub state : IsState new.now
  pub tasks : task_count new.now ≡ task_count old.now

-- the one event more makes the task ready, or absent; no other task changes, and no time passes
pub record Readies (t : ℕ) (flag : Bool) (old new : SchedulerData) : Type 0 where
  pub keeps : Keeps old new
  pub elapsed : new.elapsed ≡ old.elapsed
  pub given : new.events ≡ old.events ++ event_of t flag ∷ []
  pub own : is_ready new.now t ≡ flag
  pub others : (u : ℕ) → u ≢ t → is_ready new.now u ≡ is_ready old.now u

-- so many units pass in the state of now, which stays
pub record TimePasses (units : ℕ) (old new : SchedulerData) : Type 0 where
  pub keeps : Keeps old new
  pub elapsed : new.elapsed ≡ old.elapsed + units
  pub given : new.events ≡ old.events ++ Tick units ∷ []
  pub same : new.now ≡ old.now
  pub passed : (x : ℕ) → old.elapsed ≤ x → x < new.elapsed → new.states x ≡ old.now
