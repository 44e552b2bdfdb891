-- What contracts see of the fields of a set of tasks. Each entry of the map is a task, its key the
-- name; the tasks stand in the order of the map; what is stored is always a set of tasks; and the
-- priorities stand beside it in the same order.
use Rattle.std.specs.Prelude.{◌≡◌, map, String, string_bytes}
use Rattle.std.specs.declared.alloc.Global.{Global}
use Rattle.task_set.specs.TaskSet.{TaskData, SetData, IsTaskSet, priorities}
use Rattle.task_set.specs.declared.set.TaskSet.TheInside.{Inside}
use Rattle.task_set.specs.declared.set.Details.{Details}

-- the task of an entry
abbrev pub task_of : String Global × Details → TaskData
task_of entry =
    record { name = string_bytes entry.0; priority = entry.1.priority; mask = entry.1.mask }

-- the tasks in the order of the map
abbrev pub set_view : Inside → SetData
set_view s = record { processors = s.processors; tasks = map task_of s.tasks.entries }

-- the invariant of the fields
pub record IsStored (s : Inside) : Type 0 where
  pub valid : IsTaskSet (set_view s)
  pub priorities : s.priorities.keys ≡ priorities (set_view s)
