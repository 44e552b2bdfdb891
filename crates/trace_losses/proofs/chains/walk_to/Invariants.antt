use Rattle.std.proofs.Common.{◌≡◌, ◌<◌, ◌≤◌, ◌-◌, length, vec_len}
use Rattle.trace_passages.specs.Passages.{moment_at}
use Rattle.trace_losses.specs.Walk.{IsWalkAt}
use Rattle.trace_losses.proofs.chains.walk_to.Given as goal

abbrev pub invariant-loop-i : goal.invariant-loop-i
invariant-loop-i l = record {
  some : 0 < l.i;
  below : l.i ≤ length l.passages;
  come : 1 < l.i → moment_at l.passages (l.i - 2) ≤ l.moment;
  at : IsWalkAt l.set l.passages l.threads (l.i - 1) l.walk.core l.walk.runners.processors.items;
  seen : vec_len l.walk.seen ≡ l.threads;
}

abbrev pub decreases-loop-i : goal.decreases-loop-i
decreases-loop-i l = length l.passages - l.i
