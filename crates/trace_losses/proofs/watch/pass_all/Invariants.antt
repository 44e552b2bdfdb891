use Rattle.trace_losses.specs.Watch.{WatchesPass}
use Rattle.trace_losses.proofs.watch.pass_all.Given as goal

abbrev pub invariant-loop-t : goal.invariant-loop-t
invariant-loop-t l = WatchesPass l.units l.seen l.fn.watches.items l.watches.items l.t
