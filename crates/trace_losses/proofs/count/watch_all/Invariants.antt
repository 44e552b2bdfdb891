use Rattle.std.proofs.Common.{◌≡◌, ◌-◌, vec_len}
use Rattle.trace_passages.specs.Passages.{moment_at}
use Rattle.trace_losses.specs.Counts.{AreCountsAt, AreWatchesAt}
use Rattle.trace_losses.specs.Walk.{IsWalkAt}
use Rattle.trace_losses.specs.Watch.{stretches_of}
use Rattle.trace_losses.proofs.count.watch_all.Given as goal

abbrev pub invariant-loop-i : goal.invariant-loop-i
invariant-loop-i l = record {
  at : IsWalkAt l.set l.passages l.threads (l.i - 1) l.walk.core l.walk.runners.processors.items;
  seen : vec_len l.walk.seen ≡ l.threads;
  watched : AreWatchesAt l.set l.threads l.passages (moment_at l.passages (l.i - 1)) l.watches.items;
  stretches : stretches_of l.watches.items ≡ stretches_of l.fn.watches.items;
}
