use Rattle.std.proofs.Common.{◌≡◌, vec_len}
use Rattle.trace_losses.proofs.walk.nothing_seen.Given as goal

abbrev pub invariant-loop-thread : goal.invariant-loop-thread
invariant-loop-thread l = vec_len l.seen ≡ l.thread
