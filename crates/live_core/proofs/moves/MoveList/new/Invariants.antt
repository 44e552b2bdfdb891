use Rattle.std.proofs.Common.{◌≡◌, replicate, None}
use Rattle.live_core.proofs.moves.MoveList.new.Given as goal

abbrev pub invariant-loop-p : goal.invariant-loop-p
invariant-loop-p l = l.occupants.items ≡ replicate l._p None
