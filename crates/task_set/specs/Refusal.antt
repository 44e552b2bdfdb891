-- Why a task is not added to a set. The tests stand in one order, and the first that fails
-- names the refusal; a task that passes them all can be added.
use Rattle.std.specs.Prelude.{◌≡◌, ◌≢◌, ℕ, ◌<◌, ◌≤◌, List, length, IsTrue, All, slice_get, Some}
use Rattle.affinity_mask.specs.ProcSet.{has, empty}
use Rattle.task_set.specs.Name.{IsName}
use Rattle.task_set.specs.TaskSet.{TaskData, SetData, with_task, IsMask, names, priorities}
use Rattle.task_set.specs.declared.fault.TaskFault.{TaskFault}
use Rattle.task_set.specs.declared.fault.TaskFault.TheVariants.{BadName, Many, SameName}
use Rattle.task_set.specs.declared.fault.TaskFault.TheVariants.{SamePriority, EmptyMask}
use Rattle.task_set.specs.declared.fault.TaskFault.TheVariants.{OutsideMask, OutOfMemory}

-- the task that is to be added
abbrev pub new_task : List ℕ → ℕ → ℕ → TaskData
new_task name priority mask = record { name = name; priority = priority; mask = mask }

-- the set has fewer than 1,024 tasks
abbrev pub HasRoom : SetData → Type 0
HasRoom s = length s.tasks < 1024

-- no task has this name
abbrev pub IsNewName : SetData → List ℕ → Type 0
IsNewName s name = All (λ t. t.name ≢ name) s.tasks

-- the task with this number has this name
abbrev pub IsNameOf : SetData → ℕ → List ℕ → Type 0
IsNameOf s t name = slice_get (names s) t ≡ Some name

-- no task has this priority
abbrev pub IsNewPriority : SetData → ℕ → Type 0
IsNewPriority s priority = All (λ t. t.priority ≢ priority) s.tasks

-- the task with this number has this priority
abbrev pub IsPriorityOf : SetData → ℕ → ℕ → Type 0
IsPriorityOf s t priority = slice_get (priorities s) t ≡ Some priority

-- p is in the mask and is no processor of m, and no lesser number is so
pub record IsLeastOutside (m X p : ℕ) : Type 0 where
  pub member : IsTrue (has X p)
  pub outside : m ≤ p
  pub least : (q : ℕ) → IsTrue (has X q) → m ≤ q → p ≤ q

-- a task that passes every test
pub record CanAdd (s : SetData) (task : TaskData) : Type 0 where
  pub name : IsName task.name
  pub room : HasRoom s
  pub new_name : IsNewName s task.name
  pub new_priority : IsNewPriority s task.priority
  pub mask : IsMask s.processors task.mask

-- the task was added to the old set: it could be, its number is the next one, and it stands last in
-- the new set
pub record AddsTask (old new : SetData) (task : TaskData) (t : ℕ) : Type 0 where
  pub allowed : CanAdd old task
  pub number : t ≡ length old.tasks
  pub last : new ≡ with_task old task

-- the refusal of a task: the test that fails, after those before it were passed
abbrev pub IsRefusal : SetData → TaskData → TaskFault → Type 0
IsRefusal s task BadName = ¬ IsName task.name
IsRefusal s task Many = IsName task.name × (length s.tasks ≡ 1024)
IsRefusal s task (SameName t) = IsName task.name × HasRoom s × IsNameOf s t task.name
IsRefusal s task (SamePriority t) =
    IsName task.name × HasRoom s × IsNewName s task.name × IsPriorityOf s t task.priority
IsRefusal s task EmptyMask = IsName task.name × HasRoom s × IsNewName s task.name
    × IsNewPriority s task.priority × (task.mask ≡ empty)
IsRefusal s task (OutsideMask p) = IsName task.name × HasRoom s × IsNewName s task.name
    × IsNewPriority s task.priority × IsLeastOutside s.processors task.mask p
IsRefusal s task OutOfMemory = ⊥
