use Rattle.std.proofs.Common.{◌≡◌, take}
use Rattle.task_set.specs.TaskSet.{masks}
use Rattle.task_set.proofs.set.TaskSet.masks.Given as goal

abbrev pub invariant-loop-t : goal.invariant-loop-t
invariant-loop-t l = l.column.items ≡ take l.t (masks l.self)
