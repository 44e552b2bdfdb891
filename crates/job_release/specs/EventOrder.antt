-- The order of the events of one moment: departures by the numbers of their tasks, and then
-- arrivals by those. So a task has at most a departure and an arrival at one moment, in this order.
use Rattle.std.specs.Prelude.{ℕ, ◌+◌, ◌<◌, ◌≤◌, Bool, true, false, List, [], ◌∷◌}
use Rattle.task_set.specs.declared.event.Event.{Event}
use Rattle.task_set.specs.declared.event.Event.TheVariants.{Arrive, Depart, Tick, Affinity, Offline}
use Rattle.task_set.specs.declared.event.Event.TheVariants.{Online}

-- each of n tasks has two turns at a moment: turn t for its departure, and turn n + t for its
-- arrival. From this turn on the event may come
abbrev pub IsInTurn : ℕ → ℕ → Event → Type 0
IsInTurn n turn (Depart t) = (turn ≤ t) × (t < n)
IsInTurn n turn (Arrive t) = (turn ≤ n + t) × (t < n)
IsInTurn n turn (Tick units) = 0 < units
IsInTurn n turn _ = ⊥

-- the next turn after an event
abbrev pub turn_after : ℕ → ℕ → Event → ℕ
turn_after n turn (Depart t) = t + 1
turn_after n turn (Arrive t) = n + t + 1
turn_after n turn (Tick units) = 0
turn_after n turn (Affinity t mask) = turn
turn_after n turn (Offline p) = turn
turn_after n turn (Online p) = turn

-- the next turn after these events
abbrev pub turn_after_all : ℕ → ℕ → List Event → ℕ
turn_after_all n turn [] = turn
turn_after_all n turn (event ∷ rest) = turn_after_all n (turn_after n turn event) rest

-- each of the events comes in its turn, from this turn of the first moment on
abbrev pub AreInOrder : ℕ → ℕ → List Event → Type 0
AreInOrder n turn [] = Unit {0}
AreInOrder n turn (event ∷ rest) =
    IsInTurn n turn event × AreInOrder n (turn_after n turn event) rest

-- a task becomes ready, or absent
abbrev pub event_of : ℕ → Bool → Event
event_of t true = Arrive t
event_of t false = Depart t

-- its turn at a moment
abbrev pub own_turn : ℕ → ℕ → Bool → ℕ
own_turn n t true = n + t
own_turn n t false = t
