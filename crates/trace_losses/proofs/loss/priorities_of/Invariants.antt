use Rattle.std.proofs.Common.{◌≡◌, take}
use Rattle.task_set.specs.TaskSet.{priorities}
use Rattle.trace_losses.proofs.loss.priorities_of.Given as goal

abbrev pub invariant-loop-t : goal.invariant-loop-t
invariant-loop-t l = l.list.items ≡ take l.t (priorities l.set)
