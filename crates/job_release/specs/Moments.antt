-- Moments of a history. Time passes in ticks alone: the moment of an entry is the sum of the units
-- of the ticks before it. What is said of a moment counts single moments, from 0 on, and knows
-- nothing of where the ticks begin and end.
use Rattle.std.specs.Prelude.{ℕ, ◌+◌, ◌<◌, ◌≤◌, Bool, true, false, List, [], ◌∷◌, ◌++◌, length}
use Rattle.std.specs.Prelude.{nat_le, sum_by, if◌then◌else◌}
use Rattle.affinity_mask.specs.ProcSet.{passing_below}
use Rattle.task_set.specs.declared.event.Event.{Event}
use Rattle.task_set.specs.declared.event.Event.TheVariants.{Arrive, Depart, Tick, Affinity, Offline}
use Rattle.task_set.specs.declared.event.Event.TheVariants.{Online}
use Rattle.strong_apa.specs.declared.reply.Entry.{Entry}
use Rattle.strong_apa.specs.State.{State, is_linked}
use Rattle.strong_apa.specs.History.{state_after}

-- whether an event is a tick
abbrev pub is_tick : Event → Bool
is_tick (Tick units) = true
is_tick (Arrive t) = false
is_tick (Depart t) = false
is_tick (Affinity t mask) = false
is_tick (Offline p) = false
is_tick (Online p) = false

-- how many units of time pass at an event
abbrev pub units_of : Event → ℕ
units_of (Tick units) = units
units_of (Arrive t) = 0
units_of (Depart t) = 0
units_of (Affinity t mask) = 0
units_of (Offline p) = 0
units_of (Online p) = 0

-- how many units of time pass in a history
abbrev pub elapsed : List Entry → ℕ
elapsed history = sum_by (λ (entry : Entry). units_of entry.event) history

-- the entry, where it is no tick and its moment is at most x
abbrev pub change_by : ℕ → ℕ → Entry → List Entry
change_by x entry_moment entry =
    if is_tick entry.event then [] else (if nat_le entry_moment x then entry ∷ [] else [])

-- the entries that are no ticks and whose moment is at most x; the first entry is at this moment
abbrev pub changes_by : ℕ → ℕ → List Entry → List Entry
changes_by x entry_moment [] = []
changes_by x entry_moment (entry ∷ rest) =
    change_by x entry_moment entry ++ changes_by x (entry_moment + units_of entry.event) rest

-- the state of the moment x: the state after all entries that are no ticks and whose moment is at
-- most x
abbrev pub state_of_moment : State → List Entry → ℕ → State
state_of_moment start history x = state_after start (changes_by x 0 history)

-- what is linked at each moment, whatever scheduler links it
abbrev pub Timeline : Type 0
Timeline = ℕ → State

-- the service that a task got before the moment x: the number of moments below x in whose state it
-- is linked
abbrev pub service_of : Timeline → ℕ → ℕ → ℕ
service_of states t x = length (passing_below (λ y. is_linked (states y) t) x)

-- a job of the task t, which is finished after so many units of service, is finished at the moment
-- x: x is the least moment up to the horizon before which the task got them
pub record IsFinish (states : Timeline) (t goal horizon x : ℕ) : Type 0 where
  pub within : x ≤ horizon
  pub got : goal ≤ service_of states t x
  pub least : (y : ℕ) → y < x → service_of states t y < goal

-- it is not finished up to the horizon
abbrev pub IsUnfinished : Timeline → ℕ → ℕ → ℕ → Type 0
IsUnfinished states t goal horizon = (x : ℕ) → x ≤ horizon → service_of states t x < goal
