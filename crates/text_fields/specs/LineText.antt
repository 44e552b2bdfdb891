-- Lines as both texts write them: a line ends with a line feed, its fields are separated by one
-- space, and numbers and processor lists are canonical.
use Rattle.std.specs.Prelude.{ℕ, ◌<◌, ◌^◌, List, [], ◌∷◌, ◌++◌, codes, All}
use Rattle.affinity_mask.specs.Number.{canonical_number}
use Rattle.affinity_mask.specs.ListText.{canonical_list}
use Rattle.task_set.specs.TaskSet.{TaskData, SetData}

-- a line of these bytes
abbrev pub line : List ℕ → List ℕ
line text = text ++ 10 ∷ []

-- how many processors there are
abbrev pub processors_line : SetData → List ℕ
processors_line set = line (codes "processors " ++ canonical_number set.processors)

-- a task with its name, its priority and its affinity mask
unfoldable pub task_line : TaskData → List ℕ
task_line task =
    line (codes "task " ++ task.name ++ codes " " ++ canonical_number task.priority ++ codes " "
    ++ canonical_list task.mask)

-- the fields of a task's line
abbrev pub task_fields : TaskData → List (List ℕ)
task_fields task =
    codes "task" ∷ task.name ∷ canonical_number task.priority ∷ canonical_list task.mask ∷ []

-- each priority is below 2 to the power of 32, as in both formats
abbrev pub PrioritiesFit : SetData → Type 0
PrioritiesFit set = All (λ (task : TaskData). task.priority < 2 ^ 32) set.tasks
