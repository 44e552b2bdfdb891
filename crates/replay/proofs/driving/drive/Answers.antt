use Rattle.std.proofs.Common.{◌∙◌}
use Rattle.replay.proofs.Posts.{grown_further}
use Rattle.replay.proofs.driving.drive.Goals as goal

pub loop-preserved : goal.loop-preserved
loop-preserved g c = record {
  grown = grown_further _ _ _ c.loop.invariant.grown c.flush.ensures.grown;
  mine = c.flush.ensures.mine ∙ c.loop.invariant.mine;
  eyes = c.flush.ensures.eyes;
  same = c.step_each.ensures.same ∙ c.loop.invariant.same;
  seated = c.step_each.ensures.seated;
}

pub returns-then-step_each-clause-grown : goal.returns-then-step_each-clause-grown
returns-then-step_each-clause-grown g c = grown_further _ _ _ c.loop.invariant.grown c.flush.ensures.grown
