use Rattle.trace_losses.specs.Runs.{IsStopped}
use Rattle.trace_losses.proofs.runners.stop_all.Given as goal

abbrev pub invariant-loop-t : goal.invariant-loop-t
invariant-loop-t l = IsStopped l.initial.processors.items l.processors.items l.processor l.t
