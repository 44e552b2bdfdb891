use Rattle.live_core.proofs.Copying.{IsCopiedBelow}
use Rattle.live_core.proofs.moves.copy_occupants.Given as goal

abbrev pub invariant-loop-p : goal.invariant-loop-p
invariant-loop-p l = IsCopiedBelow l.links l.p l.occupants
