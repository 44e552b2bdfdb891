-- Where the strong scheduler begins. Private: the contracts of this crate's own functions.
use Rattle.std.specs.Prelude.{[], false}
use Rattle.task_set.specs.TaskSet.{SetData}
use Rattle.strong_apa.specs.State.{start_of}
use Rattle.sched_core.specs.CoreData.{CoreData}

-- a core of a set that was given no event
abbrev pub new_core : SetData → CoreData
new_core set =
    record { start = start_of set; history = []; links = start_of set; closed = false; spare = 0 }
