use Rattle.live_core.proofs.Noting.{IsNotedBelow}
use Rattle.live_core.proofs.seen.note_holders.Given as goal

abbrev pub invariant-loop-p : goal.invariant-loop-p
invariant-loop-p l = IsNotedBelow l.table l.p l.fn.seen l.seen
