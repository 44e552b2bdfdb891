use Rattle.std.proofs.Common.{◌-◌}
use Rattle.link_table.proofs.Rests.{rest_of}
use Rattle.link_table.proofs.Feeding.{IsFedSoFar}
use Rattle.link_table.proofs.places.write_feeders.Given as goal

abbrev pub invariant-loop-q : goal.invariant-loop-q
invariant-loop-q l = IsFedSoFar l.fn.feeders l.p l.after l.rest l.feeders

abbrev pub decreases-loop-q : goal.decreases-loop-q
decreases-loop-q l = 64 - rest_of l.rest
