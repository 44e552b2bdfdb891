-- Runs of the weak scheduler at arrivals, departures and ticks, in time. Time passes in ticks
-- alone, which change nothing: the state of a moment is that after all events that are no later.
use Rattle.std.specs.Prelude.{◌≡◌, ℕ, ◌-◌, true, false, List, [], ◌∷◌, All, replicate, nat_lt, None}
use Rattle.std.specs.Prelude.{if◌then◌else◌}
use Rattle.std.specs.List.{sum_by}
use Rattle.task_set.specs.declared.event.Event.{Event}
use Rattle.task_set.specs.declared.event.Event.TheVariants.{Arrive, Depart, Tick}
use Rattle.strong_apa.specs.State.{State, IsState, task_count, is_ready}
use Rattle.weak_apa.specs.Compared.{IsWeakRun}
use Rattle.weak_apa.specs.Stable.{IsWeaklyStable}
use Rattle.job_release.specs.Driven.{IsJobEvent}
use Rattle.job_release.specs.Moments.{Timeline, units_of}

-- the state before any event that led to this state: no task is ready, and so none is linked
abbrev pub begun_before : State → State
begun_before s =
    record s { ready = replicate (task_count s) false; on = replicate s.processors None }

-- the last of the states, or the state before them
abbrev pub last_state : State → List State → State
last_state s [] = s
last_state s (after ∷ states) = last_state after states

-- the state of the moment x, where the first event is at the moment 0, and these are the states
-- after each event
abbrev pub state_then : State → List Event → List State → Timeline
state_then s (event ∷ events) (after ∷ states) x =
    if nat_lt x (units_of event) then s else state_then after events states (x - units_of event)
state_then s _ _ x = s

-- how many units of time pass at these events
abbrev pub elapsed_at : List Event → ℕ
elapsed_at events = sum_by units_of events

-- an arrival finds its task absent, and a departure finds it ready
abbrev pub IsNeededIn : State → Event → Type 0
IsNeededIn s (Arrive t) = is_ready s t ≡ false
IsNeededIn s (Depart t) = is_ready s t ≡ true
IsNeededIn s (Tick units) = Unit {0}
IsNeededIn s _ = ⊥

-- each of the events does, where these are the states after each of them
abbrev pub AreNeededFrom : State → List Event → List State → Type 0
AreNeededFrom s (event ∷ events) (after ∷ states) =
    IsNeededIn s event × AreNeededFrom after events states
AreNeededFrom s [] states = Unit {0}
AreNeededFrom s (event ∷ events) [] = ⊥

-- the weak scheduler's states after each of these events, which are arrivals, departures and ticks;
-- in each of them it is stable
pub record IsRunFrom (start : State) (events : List Event) (states : List State) : Type 0 where
  pub begins : IsState start
  pub run : IsWeakRun start events states
  pub each_event : All IsJobEvent events
  pub needed : AreNeededFrom start events states
  pub stable_first : IsWeaklyStable start
  pub stable : All IsWeaklyStable states

-- these are the states after each of the events, and the last of them is the state now
abbrev pub AreStatesOf : State → List Event → List State → Type 0
AreStatesOf now events states =
    IsRunFrom (begun_before now) events states × (now ≡ last_state (begun_before now) states)

-- the states after each of the events that led to the state now: no more than one list is this
abbrev pub StatesOf : State → List Event → Type 0
StatesOf now events = (states : List State) × ∥ AreStatesOf now events states ∥₁
