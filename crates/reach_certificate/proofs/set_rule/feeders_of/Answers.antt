use Rattle.std.proofs.Common.{refl}
use Rattle.reach_certificate.proofs.Doubts.{left_falls}
use Rattle.reach_certificate.proofs.Feeders.{feeders_none, feeders_more, feeders_whole}
use Rattle.reach_certificate.proofs.set_rule.feeders_of.Goals as goal

pub loop-r-init : goal.loop-r-init
loop-r-init c = feeders_none c.args.links.now c.args.set c.empty-found.result c.empty-found.ensures

pub loop-r-smaller : goal.loop-r-smaller
loop-r-smaller c =
    left_falls c.loop-r.left c.without-left.result c.in-Some.r c.without-left.ensures c.in-Some.ensures.bound c.in-Some.ensures.least.0

pub loop-r-preserved : goal.loop-r-preserved
loop-r-preserved c =
    feeders_more c.args.links.now c.args.set c.loop-r.left c.loop-r.found c.in-Some.r c.without-left.result c.either_of-found.result
    c.feeders.result c.loop-r.invariant c.in-Some.ensures.least.0 c.without-left.ensures c.feeders.ensures.contents
    c.either_of-found.ensures

pub returns : goal.returns
returns c = feeders_whole c.args.links.now c.args.set c.loop-r.left c.loop-r.found c.loop-r.invariant (c.in_default.ensures.none.0 refl)
