use Rattle.std.proofs.Common.{◌≡◌, vec_len}
use Rattle.trace_bars.proofs.walk.no_sights.Given as goal

abbrev pub invariant-loop-thread : goal.invariant-loop-thread
invariant-loop-thread l = vec_len l.sights ≡ l.thread
