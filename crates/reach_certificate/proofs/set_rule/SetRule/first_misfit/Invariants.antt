use Rattle.reach_certificate.specs.Judging.{FitsSetRule}
use Rattle.reach_certificate.proofs.Doubts.{OthersFit, left_in}
use Rattle.reach_certificate.proofs.set_rule.SetRule.first_misfit.Given as goal

abbrev pub invariant-loop-q : goal.invariant-loop-q
invariant-loop-q l = OthersFit (FitsSetRule l.links l.self l.set) l.left

abbrev pub decreases-loop-q : goal.decreases-loop-q
decreases-loop-q l = left_in l.left
