use Rattle.reach_certificate.proofs.Doubts.{left_in}
use Rattle.reach_certificate.proofs.Feeders.{FeedersFound}
use Rattle.reach_certificate.proofs.set_rule.feeders_of.Given as goal

abbrev pub invariant-loop-r : goal.invariant-loop-r
invariant-loop-r l = FeedersFound l.links l.fn.set l.left l.found

abbrev pub decreases-loop-r : goal.decreases-loop-r
decreases-loop-r l = left_in l.left
