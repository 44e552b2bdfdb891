use Rattle.std.proofs.Common.{ap, ◌∙◌, List, ◌++◌, Some, arith}
use Rattle.live_core.specs.MoveData.{passing_moves}
use Rattle.live_core.specs.declared.moves.Move.{Move}
use Rattle.live_core.proofs.Replaying.{DoesMore-replays}
use Rattle.live_core.proofs.moves.MoveList.let_in.Goals as goal

pub returns-clause-moves : goal.returns-clause-moves
returns-clause-moves c = (DoesMore-replays 65 c.args.self.now c.pass_on.new.self c.requires.none c.pass_on.ensures.more).0

pub returns-clause-few : goal.returns-clause-few
returns-clause-few c =
    let few = (DoesMore-replays 65 c.args.self.now c.pass_on.new.self c.requires.none c.pass_on.ensures.more).1 in omega arith

pub returns-clause-exact : goal.returns-clause-exact
returns-clause-exact c = c.pass_on.ensures.added
    ∙ ap (λ (moves : List Move). moves ++ passing_moves c.args.self.now.occupants (Some c.args.task) c.args.chain.now) c.requires.none
