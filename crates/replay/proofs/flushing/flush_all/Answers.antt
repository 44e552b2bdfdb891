use Rattle.std.proofs.Common.{length, ◌∙◌}
use Rattle.event_history.proofs.Waiting.{saw_more}
use Rattle.replay.proofs.Posts.{grown_further, turn_further}
use Rattle.replay.proofs.flushing.flush_all.Goals as goal

pub loop-preserved : goal.loop-preserved
loop-preserved g c = record {
  grown = grown_further _ _ _ c.loop.invariant.grown c.flush-done.ensures.grown;
  mine = c.flush-done.ensures.mine ∙ c.loop.invariant.mine;
  eyes = c.flush-done.ensures.eyes;
}

pub returns-then-done-clause-grown : goal.returns-then-done-clause-grown
returns-then-done-clause-grown g c = grown_further _ _ _ c.loop.invariant.grown c.flush-done.ensures.grown

pub returns-then-done-clause-seen : goal.returns-then-done-clause-seen
returns-then-done-clause-seen g c = saw_more _ _ _ _ c.loop.invariant.mine c.flush-done.ensures.seen

pub returns-then-done-clause-turn : goal.returns-then-done-clause-turn
returns-then-done-clause-turn g c = turn_further c.args.pass.now c.loop.pass c.flush-done.new.pass (length c.flush-done.new.pass.seen)
    c.loop.invariant.grown c.flush-done.ensures.turn
