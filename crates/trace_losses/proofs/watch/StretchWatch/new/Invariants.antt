use Rattle.std.proofs.Common.{◌≡◌, replicate}
use Rattle.trace_losses.proofs.watch.StretchWatch.new.Given as goal

abbrev pub invariant-loop-task : goal.invariant-loop-task
invariant-loop-task l = l.counts.items ≡ replicate l.task 0
