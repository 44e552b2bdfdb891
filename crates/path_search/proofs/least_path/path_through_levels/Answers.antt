use Rattle.std.proofs.Common.{subst}
use Rattle.path_search.specs.declared.direction.Direction.{Direction}
use Rattle.path_search.specs.Levels.{IsOutOfReach}
use Rattle.path_search.specs.Paths.{Steps, opposite_of}
use Rattle.path_search.proofs.Remaining.{none_there, turn, turn_back}
use Rattle.path_search.proofs.least_path.path_through_levels.Goals as goal

pub returns-else-levels_to : goal.returns-else-levels_to
returns-else-levels_to c =
    none_there (Steps c.args.links.now c.args.direction) (Steps c.args.links.now (opposite_of c.args.direction))
    (turn c.args.links.now c.args.direction) (turn_back c.args.links.now c.args.direction) c.args.start c.args.target
    (subst (λ (e : Direction). IsOutOfReach (Steps c.args.links.now e) c.args.target c.args.start) c.opposite.ensures
    (c.levels_to.ensures.out c.if-levels_to.false))
