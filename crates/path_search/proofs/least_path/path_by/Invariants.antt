use Rattle.std.proofs.Common.{length}
use Rattle.path_search.specs.Paths.{Steps, opposite_of}
use Rattle.path_search.proofs.Remaining.{IsRead, turn, turn_back}
use Rattle.path_search.proofs.least_path.path_by.Given as goal

abbrev pub invariant-loop-left : goal.invariant-loop-left
invariant-loop-left l =
    IsRead (Steps l.links l.direction) (Steps l.links (opposite_of l.direction)) (turn l.links l.direction) (turn_back l.links l.direction)
    l.fn.target l.fn.start (length l.levels) l.left l.next l.chain

abbrev pub decreases-loop-left : goal.decreases-loop-left
decreases-loop-left l = l.left
