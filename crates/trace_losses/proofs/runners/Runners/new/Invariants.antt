use Rattle.std.proofs.Common.{◌≡◌, replicate, None}
use Rattle.trace_losses.proofs.runners.Runners.new.Given as goal

abbrev pub invariant-loop-thread : goal.invariant-loop-thread
invariant-loop-thread l = l.processors.items ≡ replicate l.thread None
