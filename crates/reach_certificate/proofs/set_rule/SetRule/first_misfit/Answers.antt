use Rattle.std.proofs.Common.{refl}
use Rattle.reach_certificate.specs.Judging.{FitsSetRule}
use Rattle.reach_certificate.proofs.Doubts.{left_falls, none_left}
use Rattle.reach_certificate.proofs.set_rule.SetRule.first_misfit.Goals as goal

pub loop-q-smaller : goal.loop-q-smaller
loop-q-smaller c =
    left_falls c.loop-q.left c.without-left.result c.in-Some.q c.without-left.ensures c.in-Some.ensures.bound c.in-Some.ensures.least.0

pub returns-clause-test : goal.returns-clause-test
returns-clause-test c =
    none_left (FitsSetRule c.args.links.now c.args.self c.args.set) c.loop-q.left c.loop-q.invariant (c.in_default.ensures.none.0 refl)
