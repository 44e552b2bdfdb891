use Rattle.event_history.proofs.board.Board.try_post.Goals as goal

pub returns-in-Ok-Ok-clause-posted : goal.returns-in-Ok-Ok-clause-posted
returns-in-Ok-Ok-clause-posted c =
    let told = rw c.in-Ok-Ok.field-0-is at c.in-Ok-Ok.ensures.posted in
    rw told.is told.holds
