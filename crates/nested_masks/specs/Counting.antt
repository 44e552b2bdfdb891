-- Sets of tasks that differ in one task, how many tasks each mask holds, and placements by masks
-- alone.
use Rattle.std.specs.Prelude.{◌≡◌, ◌≢◌, ℕ, ◌+◌, ◌<◌, ◌≤◌, true, false, List, IsTrue, length, get_or}
use Rattle.affinity_mask.specs.ProcSet.{has, Within}
use Rattle.strong_apa.specs.Placement.{TaskTest}
use Rattle.nested_masks.specs.Laminar.{mask_at, tasks_in}

-- t joins a set of tasks, and nothing else changes
pub record Joins (tasks : TaskTest) (t : ℕ) (new : TaskTest) : Type 0 where
  pub before : tasks t ≡ false
  pub after : new t ≡ true
  pub others : (u : ℕ) → u ≢ t → new u ≡ tasks u

-- each task of a set has a processor of its mask, and no two have the same
pub record IsPlaced (masks : List ℕ) (tasks : TaskTest) (place : ℕ → ℕ) : Type 0 where
  pub allowed : (t : ℕ) → tasks t ≡ true → IsTrue (has (mask_at masks t) (place t))
  pub apart : (t u : ℕ) → tasks t ≡ true → tasks u ≡ true → place t ≡ place u → t ≡ u

-- by task: how many tasks of the set have masks within its own
pub record IsHeldBy (masks : List ℕ) (tasks : TaskTest) (held : List ℕ) : Type 0 where
  pub count : length held ≡ length masks
  pub each : (u : ℕ) → u < length masks
      → get_or held u 0 ≡ length (tasks_in masks tasks (mask_at masks u))

-- of the first m tasks those whose masks contain X have one more, and nothing else changes
pub record HoldMoreAround (masks : List ℕ) (X m : ℕ) (old new : List ℕ) : Type 0 where
  pub count : length new ≡ length old
  pub around : (u : ℕ) → u < m → Within X (mask_at masks u) → get_or new u 0 ≡ get_or old u 0 + 1
  pub outside : (u : ℕ) → u < m → (Within X (mask_at masks u) → ⊥) → get_or new u 0 ≡ get_or old u 0
  pub later : (u : ℕ) → m ≤ u → get_or new u 0 ≡ get_or old u 0
