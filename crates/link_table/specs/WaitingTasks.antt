-- The waiting tasks in the order of urgency. The rank of a task is its place in that order, so the
-- number of tasks that are more urgent. At the rank of a task stands the set of processors that it
-- waits for: a processor is in it exactly where the task waits and may run there.
use Rattle.std.specs.Prelude.{◌≡◌, ℕ, ◌<◌, ◌≤◌, List, length, get_or, map, set, Option, Some, None}
use Rattle.affinity_mask.specs.ProcSet.{empty, Meets}
use Rattle.link_table.specs.SetTree.{IsWidthFor}
use Rattle.link_table.specs.UrgencyOrder.{IsUrgencyOrder}
use Rattle.link_table.specs.declared.ranked.Ranked.{Ranked}
use Rattle.link_table.specs.declared.waiting_tasks.WaitingTasks.TheInside.{Inside}

-- no task has the priority
abbrev pub IsNobodyWith : List ℕ → ℕ → Type 0
IsNobodyWith priorities priority =
    (t : ℕ) → t < length priorities → get_or priorities t 0 ≡ priority → ⊥

-- t has the priority
pub record IsTaskWith (priorities : List ℕ) (priority t : ℕ) : Type 0 where
  pub number : t < length priorities
  pub has_it : get_or priorities t 0 ≡ priority

-- by task: its priority, and the processors that it waits for, which are none where it does not
-- wait
pub record Waiting : Type 0 where
  pub priorities : List ℕ
  pub masks : List ℕ

-- no task waits for a processor of the set
abbrev pub IsNobodyFor : Waiting → ℕ → Type 0
IsNobodyFor a X = (t : ℕ) → Meets X (get_or a.masks t empty) → ⊥

-- t is the most urgent task that waits for a processor of the set
pub record IsFirstFor (a : Waiting) (X t : ℕ) : Type 0 where
  pub number : t < length a.priorities
  pub waits : Meets X (get_or a.masks t empty)
  pub most_urgent : (u : ℕ) → Meets X (get_or a.masks u empty)
      → get_or a.priorities t 0 ≤ get_or a.priorities u 0

-- the sets, once the task that goes out, if one does, waits for these processors
abbrev pub masks_with : List ℕ → Option ℕ → ℕ → List ℕ
masks_with masks None runs = masks
masks_with masks (Some u) runs = set masks u runs

-- one task waits no longer, and another one does, if there is one
abbrev pub exchanged : Waiting → ℕ → Option ℕ → ℕ → Waiting
exchanged a t out runs = record a { masks = masks_with (set a.masks t empty) out runs }

-- each task of an order stands at its rank
abbrev pub AreRanks : List Ranked → List ℕ → Type 0
AreRanks order ranks =
    (r : ℕ) (d : Ranked) → r < length order → get_or ranks (get_or order r d).task 0 ≡ r

-- an order, the ranks in it, and a row of sets by rank agree
pub record IsRanking (priorities : List ℕ) (order : List Ranked)
    (ranks sets : List ℕ) : Type 0 where
  pub sorted : IsUrgencyOrder priorities order
  pub order_count : length order ≡ length priorities
  pub ranks_count : length ranks ≡ length priorities
  pub placed : AreRanks order ranks
  pub width : IsWidthFor (length priorities) (length sets)
  pub few : length priorities ≤ 1024
  pub rest : (r : ℕ) → length priorities ≤ r → get_or sets r empty ≡ empty

-- the priorities, and the sets by task
abbrev pub waiting_view : Inside → Waiting
waiting_view a =
    record { priorities = a.by_task.items; masks = map (λ r. get_or a.sets r empty) a.ranks.items }

-- order, ranks and sets agree at every moment
abbrev pub AreRanked : Inside → Type 0
AreRanked a = IsRanking a.by_task.items a.order.items a.ranks.items a.sets
