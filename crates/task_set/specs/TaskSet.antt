-- Sets of tasks. A task is a name, a priority and an affinity mask; its number is its place in the
-- list; of two tasks the one with the lower priority number is more urgent, and no two tasks have
-- one name or one priority; each mask has a processor, and only processors that there are; there
-- are at most 1,024 tasks.
use Rattle.std.specs.Prelude.{◌≢◌, ℕ, ◌<◌, ◌≤◌, List, [], ◌∷◌, ◌++◌, length, map, IsTrue, AllPairs}
use Rattle.std.specs.Prelude.{All}
use Rattle.affinity_mask.specs.ProcSet.{has, empty}
use Rattle.task_set.specs.Name.{IsName}

-- a task, with its mask as a set of processors
pub record TaskData : Type 0 where
  pub name : List ℕ
  pub priority : ℕ
  pub mask : ℕ

-- the number of processors, and the tasks in the order of their numbers
pub record SetData : Type 0 where
  pub processors : ℕ
  pub tasks : List TaskData

-- of two priorities the lower number is more urgent
abbrev pub IsMoreUrgentPriority : ℕ → ℕ → Type 0
IsMoreUrgentPriority a b = a < b

-- the set with one task more, which stands last
abbrev pub with_task : SetData → TaskData → SetData
with_task s task = record s { tasks = s.tasks ++ task ∷ [] }

-- two tasks differ in name and in priority
pub record Differ (a b : TaskData) : Type 0 where
  pub names : a.name ≢ b.name
  pub priorities : a.priority ≢ b.priority

-- a mask on m processors is not empty, and each processor in it is below m
pub record IsMask (m X : ℕ) : Type 0 where
  pub some : X ≢ empty
  pub below : (p : ℕ) → IsTrue (has X p) → p < m

-- what holds of each set of tasks
pub record IsTaskSet (s : SetData) : Type 0 where
  pub processors : (1 ≤ s.processors) × (s.processors ≤ 64)
  pub count : length s.tasks ≤ 1024
  pub names : All (λ t. IsName t.name) s.tasks
  pub differ : AllPairs Differ s.tasks
  pub masks : All (λ t. IsMask s.processors t.mask) s.tasks

-- by the number of the task: its name
abbrev pub names : SetData → List (List ℕ)
names s = map (λ t. t.name) s.tasks

-- its priority
abbrev pub priorities : SetData → List ℕ
priorities s = map (λ t. t.priority) s.tasks

-- and its mask
abbrev pub masks : SetData → List ℕ
masks s = map (λ t. t.mask) s.tasks
