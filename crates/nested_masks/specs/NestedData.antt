-- What is known of tasks whose masks nest: their priorities and masks, which of them are ready, and
-- which are linked. No task has a processor here: a placement of the linked tasks exists, and a
-- scheduler may choose any.
use Rattle.std.specs.Prelude.{◌≡◌, ℕ, ◌<◌, Bool, true, false, List, length, get_or, replicate, None}
use Rattle.affinity_mask.specs.ProcSet.{all_below, Within}
use Rattle.task_set.specs.TaskSet.{SetData, priorities, masks}
use Rattle.strong_apa.specs.State.{State, IsState, HasSameTasks, HasSameMasks, is_linked, is_ready}
use Rattle.strong_apa.specs.Placement.{TaskTest, IsBest}
use Rattle.strong_apa.specs.Certificate.{IsCertificate}
use Rattle.nested_masks.specs.Laminar.{mask_at, IsLaminar, FitsNodes, IsTight}

-- by the number of the task: its priority, its mask, whether it is ready, and whether it is linked
pub record NestedData : Type 0 where
  pub processors : ℕ
  pub priorities : List ℕ
  pub masks : List ℕ
  pub ready : List Bool
  pub linked : List Bool

-- the ready tasks
abbrev pub ready_of : NestedData → TaskTest
ready_of n t = get_or n.ready t false

-- the linked tasks
abbrev pub linked_of : NestedData → TaskTest
linked_of n t = get_or n.linked t false

-- the priority of a task; a lower number is more urgent
abbrev pub priority_in : NestedData → ℕ → ℕ
priority_in n t = get_or n.priorities t 0

-- the mask of a task
abbrev pub mask_in : NestedData → ℕ → ℕ
mask_in n t = mask_at n.masks t

-- task a is more urgent than task b
abbrev pub IsUrgenter : NestedData → ℕ → ℕ → Type 0
IsUrgenter n a b = priority_in n a < priority_in n b

-- a waiting task is ready, and not linked
pub record Waits (n : NestedData) (t : ℕ) : Type 0 where
  pub ready : ready_of n t ≡ true
  pub not_linked : linked_of n t ≡ false

-- the tasks of a set before anything has happened: all are absent
abbrev pub nested_start : SetData → NestedData
nested_start set = record {
  processors = set.processors;
  priorities = priorities set;
  masks = masks set;
  ready = replicate (length set.tasks) false;
  linked = replicate (length set.tasks) false;
}

-- the state of a scheduler with these tasks, of whom nobody has a processor yet; all processors are
-- on line
abbrev pub state_of : NestedData → State
state_of n = record {
  processors = n.processors;
  priorities = n.priorities;
  masks = n.masks;
  online = all_below n.processors;
  ready = n.ready;
  on = replicate n.processors None;
}

-- masks nest, linked tasks are ready, and no node holds more of them than it has processors
pub record IsCounted (n : NestedData) : Type 0 where
  pub state : IsState (state_of n)
  pub count : length n.linked ≡ length n.priorities
  pub laminar : IsLaminar n.masks
  pub linked_ready : (t : ℕ) → linked_of n t ≡ true → ready_of n t ≡ true
  pub fits : FitsNodes n.masks (linked_of n)

-- the node keeps w out: the mask of w lies within it, and it is tight with linked tasks that are
-- all more urgent
pub record KeepsOut (n : NestedData) (node w : ℕ) : Type 0 where
  pub tight : IsTight n.masks (linked_of n) node
  pub contains : Within (mask_in n w) node
  pub more_urgent : (u : ℕ) → linked_of n u ≡ true → Within (mask_in n u) node → IsUrgenter n u w

-- what holds at every moment: each waiting task is kept out by a node
pub record IsNested (n : NestedData) : Type 0 where
  pub counted : IsCounted n
  pub kept_out : (w : ℕ) → Waits n w → (node : ℕ) × KeepsOut n node w

-- the linked tasks are the best placeable set of the ready tasks
abbrev pub IsBestByCounts : NestedData → Type 0
IsBestByCounts n = IsBest (state_of n) (ready_of n) (linked_of n)

-- a state of a scheduler in which the same tasks are linked, to whichever processors
pub record IsPlacedIn (n : NestedData) (s : State) : Type 0 where
  pub state : IsState s
  pub tasks : HasSameTasks (state_of n) s
  pub masks : HasSameMasks (state_of n) s
  pub linked : (t : ℕ) → is_linked s t ≡ linked_of n t

-- the node certifies that w waits, in every placement of the linked tasks
abbrev pub CertifiesEverywhere : NestedData → ℕ → ℕ → Type 0
CertifiesEverywhere n node w = (s : State) → IsPlacedIn n s → IsCertificate s w node

-- any scheduler with the best set of the same ready tasks has the same linked tasks
abbrev pub IsTheOnlyBest : NestedData → Type 0
IsTheOnlyBest n = (s : State) → HasSameTasks (state_of n) s → HasSameMasks (state_of n) s
    → ((t : ℕ) → is_ready s t ≡ ready_of n t) → IsBest s (is_ready s) (is_linked s) → (t : ℕ)
    → is_linked s t ≡ linked_of n t
