-- Placements, and the best set. A set of tasks is placeable where its tasks can be assigned to
-- processors of their effective masks, no two to one; of two sets the better one has the most
-- urgent task that is in just one of them; the best subset of the ready tasks is placeable, and no
-- placeable subset is better. A set of tasks is given as a test, and a placement as the function
-- from tasks to processors.
use Rattle.std.specs.Prelude.{◌≡◌, ◌≢◌, ℕ, ◌≤◌, Bool, true, false, IsTrue}
use Rattle.affinity_mask.specs.ProcSet.{has}
use Rattle.strong_apa.specs.State.{State, effective_mask, priority_of}

-- a set of tasks, as the test whether a task is in it
abbrev pub TaskTest : Type 0
TaskTest = ℕ → Bool

-- a placement of a set: each task has a processor of its effective mask, and no two tasks have the
-- same
pub record IsPlacement (s : State) (tasks : TaskTest) (place : ℕ → ℕ) : Type 0 where
  pub allowed : (t : ℕ) → tasks t ≡ true → IsTrue (has (effective_mask s t) (place t))
  pub apart : (t u : ℕ) → tasks t ≡ true → tasks u ≡ true → place t ≡ place u → t ≡ u

-- a set of tasks is placeable where some placement has exactly these tasks
abbrev pub IsPlaceable : State → TaskTest → Type 0
IsPlaceable s tasks = (place : ℕ → ℕ) × IsPlacement s tasks place

-- A is better than B: the most urgent task that is in just one of them is in A
pub record IsBetter (s : State) (A B : TaskTest) : Type 0 where
  pub task : ℕ
  pub in_first : A task ≡ true
  pub not_in_second : B task ≡ false
  pub most_urgent : (u : ℕ) → A u ≢ B u → priority_of s task ≤ priority_of s u

-- each task of A is in R
abbrev pub IsSubset : TaskTest → TaskTest → Type 0
IsSubset A R = (t : ℕ) → A t ≡ true → R t ≡ true

-- the best subset of R: it is placeable, and no placeable subset of R is better
pub record IsBest (s : State) (R best : TaskTest) : Type 0 where
  pub subset : IsSubset best R
  pub placeable : IsPlaceable s best
  pub none_better : (other : TaskTest) → IsSubset other R → IsPlaceable s other
      → IsBetter s other best → ⊥
