-- What certificates say of the linked tasks.
use Rattle.std.specs.Prelude.{◌≡◌, ℕ, ◌≤◌, List, length, take}
use Rattle.strong_apa.specs.declared.reply.Entry.{Entry}
use Rattle.strong_apa.specs.State.{State, IsState, is_ready, is_linked}
use Rattle.strong_apa.specs.History.{state_after}
use Rattle.strong_apa.specs.Placement.{TaskTest, IsPlaceable, IsSubset, IsBest}
use Rattle.strong_apa.specs.Certified.{HasCertificates}
use Rattle.strong_apa.specs.Ranks.{tasks_of, KeepsUp, IsAsUrgent}

-- the linked tasks are the best placeable set of the ready tasks
abbrev pub LinkedIsBest : State → Type 0
LinkedIsBest s = IsBest s (is_ready s) (is_linked s)

-- each best set of the ready tasks has exactly the linked tasks
abbrev pub LinkedIsOnlyBest : State → Type 0
LinkedIsOnlyBest s =
    (best : TaskTest) → IsBest s (is_ready s) best → (t : ℕ) → best t ≡ is_linked s t

-- no placeable set of ready tasks is larger than that of the linked tasks
abbrev pub LinkedIsLargest : State → Type 0
LinkedIsLargest s = (other : TaskTest) → IsSubset other (is_ready s) → IsPlaceable s other
    → length (tasks_of s other) ≤ length (tasks_of s (is_linked s))

-- the linked tasks keep up with each placeable set of ready tasks
abbrev pub LinkedKeepsUp : State → Type 0
LinkedKeepsUp s = (other : TaskTest) → IsSubset other (is_ready s) → IsPlaceable s other
    → KeepsUp s (is_linked s) other

-- the linked tasks are as urgent as each placeable set of ready tasks, rank by rank
abbrev pub LinkedIsAsUrgent : State → Type 0
LinkedIsAsUrgent s = (other : TaskTest) → IsSubset other (is_ready s) → IsPlaceable s other
    → IsAsUrgent s (is_linked s) other

-- what holds of each state whose waiting tasks all have a certificate
abbrev pub HoldsWhereCertified : (State → Type 0) → Type 0
HoldsWhereCertified Law = (s : State) → IsState s → HasCertificates s → Law s

-- what holds before a history and after each of its entries
abbrev pub HoldsThroughout : (State → Type 0) → State → List Entry → Type 0
HoldsThroughout Law start history =
    (n : ℕ) → n ≤ length history → Law (state_after start (take n history))
