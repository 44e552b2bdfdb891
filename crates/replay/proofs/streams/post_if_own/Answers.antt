use Rattle.replay.proofs.Posts.{pass_stays}
use Rattle.replay.proofs.streams.post_if_own.Goals as goal

pub returns-clause-pass : goal.returns-clause-pass
returns-clause-pass g c =
    pass_stays c.args.poster.now.board.now c.args.pass.now.caller c.args.pass.now c.post_next.new.pass c.requires.pass
    c.post_next.ensures.grown c.post_next.ensures.eyes
