use Rattle.schedule_picture.proofs.Looking.{BecomesBelow, Ending}
use Rattle.schedule_picture.proofs.tracks.end_all.Given as goal

abbrev pub invariant-loop-x : goal.invariant-loop-x
invariant-loop-x l = BecomesBelow (Ending l.until) l.x l.fn.tracks.items l.tracks.items
