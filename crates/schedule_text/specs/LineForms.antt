-- What can stand for a name, and the line with the number of contexts. In a task line and in an
-- entry any field stands for a name.
use Rattle.std.specs.Prelude.{◌≡◌, ◌≢◌, ℕ, List, [], ◌++◌, length, codes, All, Contains}
use Rattle.affinity_mask.specs.Number.{canonical_number}
use Rattle.task_set.specs.TaskSet.{TaskData, SetData}

-- what can stand for a name: some bytes without blanks, which are spaces and tabs
pub record IsField (field : List ℕ) : Type 0 where
  pub some : field ≢ []
  pub no_space : Contains field 32 → ⊥
  pub no_tab : Contains field 9 → ⊥

-- tasks whose names may be any fields
abbrev pub HasFields : SetData → Type 0
HasFields set = All (λ (task : TaskData). IsField task.name) set.tasks

-- the number of contexts, which is that of the tasks
abbrev pub IsCountForm : SetData → List ℕ → Type 0
IsCountForm set text = text ≡ codes "contexts " ++ canonical_number (length set.tasks)
