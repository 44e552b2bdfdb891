use Rattle.trace_losses.specs.Watch.{AreMore}
use Rattle.trace_losses.proofs.watch.count_all.Given as goal

abbrev pub invariant-loop-t : goal.invariant-loop-t
invariant-loop-t l = AreMore l.initial.counts.items l.counts.items l.seen l.units l.t
