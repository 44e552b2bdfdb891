-- Every set of tasks has a best subset. It is the only one: that is a law of strong_apa.
use Rattle.std.specs.Prelude.{◌≡◌, ℕ, ◌<◌, true}
use Rattle.strong_apa.specs.State.{State, IsState, task_count}
use Rattle.strong_apa.specs.Placement.{TaskTest, IsBest}

-- a set of tasks of a state has a best subset
abbrev pub BestExists : Type 0
BestExists = (s : State) (R : TaskTest) → IsState s → ((t : ℕ) → R t ≡ true → t < task_count s)
    → (best : TaskTest) × IsBest s R best
