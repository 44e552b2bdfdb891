-- Weights. Each task has a weight, and none weighs more than a more urgent one; a set weighs what
-- its tasks weigh together.
use Rattle.std.specs.Prelude.{ℕ, ◌<◌, ◌≤◌, ◌↔◌, sum_by}
use Rattle.strong_apa.specs.State.{State, IsState, task_count, is_ready, is_linked, IsMoreUrgent}
use Rattle.strong_apa.specs.Placement.{TaskTest, IsSubset, IsPlaceable}
use Rattle.strong_apa.specs.Ranks.{tasks_of}
use Rattle.strong_apa.specs.CertificateLaws.{LinkedIsBest}
use Rattle.scheduling_laws.specs.InReach.{HoldsOfLegal, HoldsOfPassing}

-- no task weighs more than a more urgent one
abbrev pub FallsWithUrgency : State → (ℕ → ℕ) → Type 0
FallsWithUrgency s weight = (t u : ℕ) → t < task_count s → u < task_count s → IsMoreUrgent s t u
    → weight u ≤ weight t

-- what the tasks of a set weigh together
abbrev pub weight_of : State → (ℕ → ℕ) → TaskTest → ℕ
weight_of s weight tasks = sum_by weight (tasks_of s tasks)

-- whatever the weights, no placeable set of ready tasks weighs more than the linked tasks
abbrev pub LinkedWeighsMost : State → Type 0
LinkedWeighsMost s = (weight : ℕ → ℕ) (other : TaskTest)
    → FallsWithUrgency s weight → IsSubset other (is_ready s) → IsPlaceable s other
    → weight_of s weight other ≤ weight_of s weight (is_linked s)

-- after every entry of a legal history the linked tasks weigh most
abbrev pub LegalWeighsMost : Type 0
LegalWeighsMost = HoldsOfLegal LinkedWeighsMost

-- and where replies pass
abbrev pub PassingWeighsMost : Type 0
PassingWeighsMost = HoldsOfPassing LinkedWeighsMost

-- the linked tasks are the best placeable set of the ready ones exactly where they weigh most
abbrev pub BestWeighsMost : Type 0
BestWeighsMost = (s : State) → IsState s → LinkedIsBest s ↔ LinkedWeighsMost s
