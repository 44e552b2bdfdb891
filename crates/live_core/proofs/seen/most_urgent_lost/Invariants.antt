use Rattle.live_core.proofs.Losing.{IsFirstBelow}
use Rattle.live_core.proofs.seen.most_urgent_lost.Given as goal

abbrev pub invariant-loop-p : goal.invariant-loop-p
invariant-loop-p l = IsFirstBelow l.links l.table l.p l.found
