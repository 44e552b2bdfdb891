use Rattle.std.proofs.Common.{[], ◌∷◌}
use Rattle.replay.proofs.Posts.{adds_further, grown_further}
use Rattle.replay.proofs.streams.post_next.Goals as goal

pub returns-in-Ok-true-2-clause-grown : goal.returns-in-Ok-true-2-clause-grown
returns-in-Ok-true-2-clause-grown g c =
    grown_further c.args.pass.now c.post_one.new.pass c.flush.new.pass c.post_one.ensures.grown c.flush.ensures.grown

pub returns-in-Ok-true-2-clause-adds : goal.returns-in-Ok-true-2-clause-adds
returns-in-Ok-true-2-clause-adds g c =
    adds_further c.args.pass.now c.post_one.new.pass c.flush.new.pass (c.args.event ∷ [])
    c.in-Ok-true-2.ensures-1.adds c.flush.ensures.grown c.flush.ensures.mine
