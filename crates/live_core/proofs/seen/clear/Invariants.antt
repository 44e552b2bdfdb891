use Rattle.live_core.proofs.Settling.{IsClearedBelow}
use Rattle.live_core.proofs.seen.clear.Given as goal

abbrev pub invariant-loop-p : goal.invariant-loop-p
invariant-loop-p l = IsClearedBelow l.fn.table l.table l.p
