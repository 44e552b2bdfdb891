use Rattle.std.proofs.Common.{refl}
use Rattle.link_table.proofs.Feeding.{fed_first, fed_whole}
use Rattle.link_table.proofs.Rests.{rest_grows}
use Rattle.link_table.proofs.places.write_feeders.Goals as goal

pub loop-q-init : goal.loop-q-init
loop-q-init c =
    fed_first c.args.feeders.now c.args.p c.args.before c.args.after c.minus.result c.minus-2.result c.either_of-rest.result
    c.requires.before_inside c.requires.after_inside c.requires.as_before
    c.minus.ensures c.minus-2.ensures c.either_of-rest.ensures

pub loop-q-smaller : goal.loop-q-smaller
loop-q-smaller c =
    rest_grows c.loop-q.rest c.without-rest.result c.in-Some.q c.without-rest.ensures c.in-Some.ensures.least.0 c.in-Some.ensures.bound

pub returns : goal.returns
returns c =
    fed_whole c.args.feeders.now c.args.p c.args.after c.loop-q.rest c.loop-q.feeders (c.in_default.ensures.none.0 refl) c.loop-q.invariant
