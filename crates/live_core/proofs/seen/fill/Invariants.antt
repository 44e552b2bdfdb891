use Rattle.live_core.proofs.Settling.{IsFilledBelow}
use Rattle.live_core.proofs.seen.fill.Given as goal

abbrev pub invariant-loop-p : goal.invariant-loop-p
invariant-loop-p l = IsFilledBelow l.links l.seen l.table l.p
