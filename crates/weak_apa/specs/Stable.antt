-- The invariant of the weak scheduler. A task looks at the processors of its own effective mask
-- alone, so all that can be asked of a waiting task is that each of these has a more urgent one.
use Rattle.std.specs.Prelude.{◌≡◌, ◌≢◌, ℕ, ◌<◌, IsTrue, Some}
use Rattle.affinity_mask.specs.ProcSet.{has}
use Rattle.strong_apa.specs.State.{State, task_count, effective_mask, task_on, IsWaiting}
use Rattle.strong_apa.specs.State.{IsMoreUrgent}

-- the occupant of p is more urgent than w
abbrev pub RunsMoreUrgent : State → ℕ → ℕ → Type 0
RunsMoreUrgent s p w = (u : ℕ) × (task_on s p ≡ Some u) × IsMoreUrgent s u w

-- each processor of the effective mask of w is occupied by a more urgent task
abbrev pub IsKeptOut : State → ℕ → Type 0
IsKeptOut s w = (p : ℕ) → IsTrue (has (effective_mask s w) p) → RunsMoreUrgent s p w

-- each processor of the effective mask of each waiting task is occupied by a more urgent task
abbrev pub IsWeaklyStable : State → Type 0
IsWeaklyStable s = (w : ℕ) → IsWaiting s w → IsKeptOut s w

-- the same, but for the task x, which is being placed
abbrev pub IsStableBut : State → ℕ → Type 0
IsStableBut s x = (w : ℕ) → IsWaiting s w → w ≢ x → IsKeptOut s w

-- the same, but for the processor q, which has become idle
abbrev pub IsStableBeside : State → ℕ → Type 0
IsStableBeside s q =
    (w p : ℕ) → IsWaiting s w → IsTrue (has (effective_mask s w) p) → p ≢ q → RunsMoreUrgent s p w

-- x is to be placed: it waits, and each other waiting task is kept out
pub record IsToBePlaced (s : State) (x : ℕ) : Type 0 where
  pub number : x < task_count s
  pub waits : IsWaiting s x
  pub others : IsStableBut s x
