use Rattle.std.proofs.Common.{sym, subst}
use Rattle.event_history.specs.Boards.{AreEyesOf}
use Rattle.replay.proofs.Passing.{first_grown, saw_some}
use Rattle.replay.proofs.posting.publish_new.Goals as goal

pub returns-clause-grown : goal.returns-clause-grown
returns-clause-grown g c =
    let board = c.args.shared.now.board.now in
    let passes = c.args.passes.now.items in
    let seen = c.publish_seen.ensures in
    first_grown board.queues passes c.index_mut.result.now c.publish_seen.new.pass (saw_some _ passes c.requires.published)
    c.index_mut.ensures.value
    (record { grown = seen.grown; mine = seen.mine; eyes = λ eyes. subst (AreEyesOf board.queues) (sym seen.eyes) eyes })
