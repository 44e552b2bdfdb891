use Rattle.std.proofs.Common.{refl}
use Rattle.path_search.specs.Paths.{Steps}
use Rattle.path_search.proofs.Moves.{IsUnionSoFar-start, IsUnionSoFar-more, IsUnionSoFar-end}
use Rattle.link_table.proofs.Rests.{rest_grows}
use Rattle.path_search.proofs.direction.Direction.after_all.Goals as goal

pub loop-p-init : goal.loop-p-init
loop-p-init c = IsUnionSoFar-start (Steps c.args.links.now c.args.self) c.args.set.now c.empty-found.result c.empty-found.ensures

pub loop-p-smaller : goal.loop-p-smaller
loop-p-smaller c =
    rest_grows c.loop-p.rest c.without-rest.result c.in-Some.p c.without-rest.ensures c.in-Some.ensures.least.0 c.in-Some.ensures.bound

pub loop-p-preserved : goal.loop-p-preserved
loop-p-preserved c =
    IsUnionSoFar-more (Steps c.args.links.now c.args.self) c.args.set.now c.loop-p.found c.loop-p.rest c.loop-p.invariant c.in-Some.p
    c.after.result c.either_of-found.result c.without-rest.result
    c.in-Some.ensures.least.0 c.after.ensures.contents c.either_of-found.ensures c.without-rest.ensures

pub returns : goal.returns
returns c = IsUnionSoFar-end (Steps c.args.links.now c.args.self) c.args.set.now c.loop-p.found c.loop-p.rest c.loop-p.invariant
    (c.in_default.ensures.none.0 refl)
