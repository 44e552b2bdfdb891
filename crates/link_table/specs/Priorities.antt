-- The priorities of tasks, once they change. They differ at every moment.
use Rattle.std.specs.Prelude.{◌≡◌, ℕ, ◌<◌, set}
use Rattle.strong_apa.specs.State.{State, task_count, priority_of}

-- no task but t has the priority
abbrev pub IsFreeFor : State → ℕ → ℕ → Type 0
IsFreeFor s t priority = (u : ℕ) → u < task_count s → priority_of s u ≡ priority → u ≡ t

-- the priority of t is this one, and all else stays
abbrev pub state_with_priority : State → ℕ → ℕ → State
state_with_priority s t priority = record s { priorities = set s.priorities t priority }

-- t and u have each other's priority, and all else stays
abbrev pub state_with_exchange : State → ℕ → ℕ → State
state_with_exchange s t u =
    state_with_priority (state_with_priority s t (priority_of s u)) u (priority_of s t)
