-- Sets of tasks compared rank by rank. The tasks of a set that are as urgent as a bound, or more,
-- are those whose priority number is at most the bound; a set keeps up with another where at no
-- bound the other has more of them; the k-th most urgent task of a set is the one up to whose
-- priority the set has k tasks, itself among them.
use Rattle.std.specs.Prelude.{◌≡◌, ℕ, ◌≤◌, true, ◌&&◌, List, length, nat_le}
use Rattle.affinity_mask.specs.ProcSet.{passing_below}
use Rattle.strong_apa.specs.State.{State, task_count, priority_of}
use Rattle.strong_apa.specs.Placement.{TaskTest}

-- the tasks of a set, by their numbers
abbrev pub tasks_of : State → TaskTest → List ℕ
tasks_of s tasks = passing_below tasks (task_count s)

-- the tasks of a set whose priority number is at most the bound
abbrev pub tasks_within : State → TaskTest → ℕ → List ℕ
tasks_within s tasks bound = tasks_of s (λ t. tasks t && nat_le (priority_of s t) bound)

-- A keeps up with B: however urgent tasks are asked for, A has at least as many of them as B
abbrev pub KeepsUp : State → TaskTest → TaskTest → Type 0
KeepsUp s A B = (bound : ℕ) → length (tasks_within s B bound) ≤ length (tasks_within s A bound)

-- t is the k-th most urgent task of a set, counted from 1
pub record IsRanked (s : State) (tasks : TaskTest) (k t : ℕ) : Type 0 where
  pub member : tasks t ≡ true
  pub rank : length (tasks_within s tasks (priority_of s t)) ≡ k

-- A is as urgent as B rank by rank: for each k up to the size of B there is a k-th most urgent task
-- of each, and that of A is at least as urgent
abbrev pub IsAsUrgent : State → TaskTest → TaskTest → Type 0
IsAsUrgent s A B = (k : ℕ) → 1 ≤ k → k ≤ length (tasks_of s B)
    → (t : ℕ) × (u : ℕ) × IsRanked s A k t × IsRanked s B k u × (priority_of s t ≤ priority_of s u)
