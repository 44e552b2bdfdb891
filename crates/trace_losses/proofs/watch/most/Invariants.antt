use Rattle.trace_losses.specs.Watch.{IsMostOf}
use Rattle.trace_losses.proofs.watch.most.Given as goal

abbrev pub invariant-loop-t : goal.invariant-loop-t
invariant-loop-t l = IsMostOf l.counts l.priorities l.t l.found
