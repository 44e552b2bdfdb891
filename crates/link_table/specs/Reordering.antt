-- How one task moves to its place in the order of urgency, a step at a time: the ranks and the sets
-- at them go with it.
use Rattle.std.specs.Prelude.{◌≡◌, ◌≢◌, ℕ, ◌<◌, ◌≤◌, List, length, get_or}
use Rattle.std.specs.List.Sorted.{IsPermutation}
use Rattle.affinity_mask.specs.ProcSet.{empty}
use Rattle.link_table.specs.declared.ranked.Ranked.{Ranked}
use Rattle.link_table.specs.WaitingTasks.{AreRanks}

-- each task stands at its rank in an order, and nowhere else
pub record IsInverse (order : List Ranked) (ranks : List ℕ) : Type 0 where
  pub few : length order ≤ 1024
  pub count : length ranks ≡ length order
  pub numbers : (r : ℕ) (d : Ranked) → r < length order → (get_or order r d).task < length order
  pub placed : AreRanks order ranks
  pub within : (t : ℕ) → t < length order → get_or ranks t 0 < length order
  pub stands : (t : ℕ) (d : Ranked) → t < length order → (get_or order (get_or ranks t 0) d).task
      ≡ t

-- but for one place, no entry is more urgent than one before it
abbrev pub IsNonDecreasingBut : ℕ → List Ranked → Type 0
IsNonDecreasingBut r order = (j k : ℕ) (d : Ranked) → j ≤ k → k < length order → j ≢ r → k ≢ r
    → (get_or order j d).priority ≤ (get_or order k d).priority

-- no entry after a place is more urgent than the one there
abbrev pub IsMostUrgentFrom : ℕ → List Ranked → Type 0
IsMostUrgentFrom r order = (k : ℕ) (d : Ranked) → r < k → k < length order
    → (get_or order r d).priority ≤ (get_or order k d).priority

-- the entries stand in another order, with new ranks, and each task has the set that it had
pub record Reordered (old : List Ranked) (old_ranks old_sets : List ℕ) (new : List Ranked)
    (ranks sets : List ℕ) : Type 0 where
  pub entries : IsPermutation old new
  pub inverse : IsInverse new ranks
  pub row_count : length sets ≡ length old_sets
  pub kept : (t : ℕ) → t < length old → get_or sets (get_or ranks t 0) empty
      ≡ get_or old_sets (get_or old_ranks t 0) empty
  pub rest : (r : ℕ) → length old ≤ r → get_or sets r empty ≡ get_or old_sets r empty
