use Rattle.schedule_text.proofs.Chains.{AreProcessorsSoFar}
use Rattle.schedule_text.proofs.field.processors_of.Given as goal

abbrev pub invariant-loop-link : goal.invariant-loop-link
invariant-loop-link l = AreProcessorsSoFar l.yielded l.chain
