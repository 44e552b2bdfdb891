-- The state of a scheduler. A state is what is known of each task (its priority and its mask),
-- which processors are on line, which tasks are ready, and which task is linked to which processor.
-- What is known of a task is listed by the number of the task, and the links by the number of the
-- processor.
use Rattle.std.specs.Prelude.{◌≡◌, ℕ, ◌<◌, ◌≤◌, Bool, true, false, List, length, get_or, replicate}
use Rattle.std.specs.Prelude.{set, map, IsTrue, Option, Some, None, ◌==◌, if◌then◌else◌}
use Rattle.std.specs.List.{list_any}
use Rattle.affinity_mask.specs.ProcSet.{has, empty, all_below, intersection, with_member}
use Rattle.affinity_mask.specs.ProcSet.{without_member, Within}
use Rattle.task_set.specs.TaskSet.{SetData, IsMask, priorities, masks}

-- masks and `online` are sets of processors; `on` has the task linked to each processor, if there
-- is one
pub record State : Type 0 where
  pub processors : ℕ
  pub priorities : List ℕ
  pub masks : List ℕ
  pub online : ℕ
  pub ready : List Bool
  pub on : List (Option ℕ)

-- how many tasks there are
abbrev pub task_count : State → ℕ
task_count s = length s.priorities

-- the priority of a task; a lower number is more urgent
abbrev pub priority_of : State → ℕ → ℕ
priority_of s t = get_or s.priorities t 0

-- the processors that a task may run on while all of them are on line; a mask may change
abbrev pub mask_of : State → ℕ → ℕ
mask_of s t = get_or s.masks t empty

-- the processors that a task may run on: those of its mask that are on line
abbrev pub effective_mask : State → ℕ → ℕ
effective_mask s t = intersection (mask_of s t) s.online

-- whether a task has arrived and not departed
abbrev pub is_ready : State → ℕ → Bool
is_ready s t = get_or s.ready t false

-- the task that is linked to a processor, which is its occupant
abbrev pub task_on : State → ℕ → Option ℕ
task_on s p = get_or s.on p None

-- whether an occupant is this task
abbrev pub is_task : ℕ → Option ℕ → Bool
is_task t None = false
is_task t (Some u) = u == t

-- whether a task is linked to some processor
abbrev pub is_linked : State → ℕ → Bool
is_linked s t = list_any (is_task t) s.on

-- an idle processor is on line, and no task is linked to it
abbrev pub IsIdle : State → ℕ → Type 0
IsIdle s p = IsTrue (has s.online p) × (task_on s p ≡ None)

-- a waiting task is ready, and linked to no processor
pub record IsWaiting (s : State) (t : ℕ) : Type 0 where
  pub ready : is_ready s t ≡ true
  pub not_linked : is_linked s t ≡ false

-- task a is more urgent than task b: its priority number is lower
abbrev pub IsMoreUrgent : State → ℕ → ℕ → Type 0
IsMoreUrgent s a b = priority_of s a < priority_of s b

-- what holds of every state: the links are a placement of ready tasks that respects the effective
-- masks, so that only processors on line are occupied, and priorities differ
pub record IsState (s : State) : Type 0 where
  pub processors : s.processors ≤ 64
  pub count : task_count s ≤ 1024
  pub masks_count : length s.masks ≡ task_count s
  pub ready_count : length s.ready ≡ task_count s
  pub on_count : length s.on ≡ s.processors
  pub online : Within s.online (all_below s.processors)
  pub masks : (t : ℕ) → t < task_count s → IsMask s.processors (mask_of s t)
  pub distinct : (t u : ℕ) → t < task_count s → u < task_count s → priority_of s t ≡ priority_of s u
      → t ≡ u
  pub allowed : (p t : ℕ) → task_on s p ≡ Some t → IsTrue (has (effective_mask s t) p)
  pub once : (p q t : ℕ) → task_on s p ≡ Some t → task_on s q ≡ Some t → p ≡ q
  pub linked_ready : (p t : ℕ) → task_on s p ≡ Some t → is_ready s t ≡ true

-- the state of a set of tasks before anything has happened: every task is absent, and every
-- processor on line and idle
abbrev pub start_of : SetData → State
start_of set = record {
  processors = set.processors;
  priorities = priorities set;
  masks = masks set;
  online = all_below set.processors;
  ready = replicate (length set.tasks) false;
  on = replicate set.processors None;
}

-- two states have the same processors, and the same tasks with the same priorities: so it stays for
-- ever
pub record HasSameTasks (old new : State) : Type 0 where
  pub processors : new.processors ≡ old.processors
  pub priorities : new.priorities ≡ old.priorities

-- two states have the same masks, and the same processors on line: so it stays while no event
-- changes either
pub record HasSameMasks (old new : State) : Type 0 where
  pub masks : new.masks ≡ old.masks
  pub online : new.online ≡ old.online

-- t is ready, and all else stays
abbrev pub state_with_ready : State → ℕ → State
state_with_ready s t = record s { ready = set s.ready t true }

-- t is absent, and all else stays
abbrev pub state_with_absent : State → ℕ → State
state_with_absent s t = record s { ready = set s.ready t false }

-- the mask of t is this one, and all else stays
abbrev pub state_with_mask : State → ℕ → ℕ → State
state_with_mask s t mask = record s { masks = set s.masks t mask }

-- p is on line, and all else stays
abbrev pub state_with_online : State → ℕ → State
state_with_online s p = record s { online = with_member s.online p }

-- p is off line, and all else stays
abbrev pub state_with_offline : State → ℕ → State
state_with_offline s p = record s { online = without_member s.online p }

-- no task is linked to p, and all else stays
abbrev pub state_with_idle : State → ℕ → State
state_with_idle s p = record s { on = set s.on p None }

-- the occupant, where it is not t
abbrev pub occupant_but : ℕ → Option ℕ → Option ℕ
occupant_but t occupant = if is_task t occupant then None else occupant

-- t is absent, the processor that it was linked to has no task, and all else stays
abbrev pub state_after_leaving : State → ℕ → State
state_after_leaving s t = record s { ready = set s.ready t false; on = map (occupant_but t) s.on }
