use Rattle.std.proofs.Common.{◌-◌}
use Rattle.path_search.specs.Paths.{Steps}
use Rattle.path_search.proofs.Moves.{IsUnionSoFar}
use Rattle.link_table.proofs.Rests.{rest_of}
use Rattle.path_search.proofs.direction.Direction.after_all.Given as goal

abbrev pub invariant-loop-p : goal.invariant-loop-p
invariant-loop-p l = IsUnionSoFar (Steps l.links l.self) l.set l.found l.rest

abbrev pub decreases-loop-p : goal.decreases-loop-p
decreases-loop-p l = 64 - rest_of l.rest
