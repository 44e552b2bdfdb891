use Rattle.replay.proofs.Passing.{first_grown}
use Rattle.replay.proofs.watched_threads.close_by_first.Goals as goal

pub returns-clause-grown : goal.returns-clause-grown
returns-clause-grown g c =
    let closed = c.close_core.ensures in
    first_grown c.args.shared.now.board.now.queues c.args.passes.now.items c.index_mut.result.now c.close_core.new.pass c.requires.some
    c.index_mut.ensures.value
    (record { grown = closed.grown; mine = closed.mine; eyes = λ eyes. closed.eyes })
