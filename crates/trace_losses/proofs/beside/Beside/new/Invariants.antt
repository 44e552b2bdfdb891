use Rattle.std.proofs.Common.{◌≡◌, replicate}
use Rattle.trace_losses.proofs.beside.Beside.new.Given as goal

abbrev pub invariant-loop-thread : goal.invariant-loop-thread
invariant-loop-thread l = l.counts.items ≡ replicate l.thread 0
