use Rattle.std.proofs.Common.{◌∙◌, length}
use Rattle.event_history.proofs.Waiting.{grown_more, saw_more, turn_more}
use Rattle.event_history.proofs.board.Board.finish.Goals as goal

pub loop-preserved : goal.loop-preserved
loop-preserved g c = (
  grown_more _ _ _ c.loop.invariant.0 c.try_finish.ensures.grown,
  c.try_finish.ensures.mine ∙ c.loop.invariant.1,
  c.try_finish.ensures.eyes ∙ c.loop.invariant.2,
)

pub returns-in-Ok-clause-grown : goal.returns-in-Ok-clause-grown
returns-in-Ok-clause-grown g c = grown_more _ _ _ c.loop.invariant.0 c.try_finish.ensures.grown

pub returns-in-Ok-clause-seen : goal.returns-in-Ok-clause-seen
returns-in-Ok-clause-seen g c = saw_more _ _ _ _ c.loop.invariant.1 c.in-Ok.ensures.closed.0

pub returns-in-Ok-clause-turn : goal.returns-in-Ok-clause-turn
returns-in-Ok-clause-turn g c =
    turn_more c.args.pass.now c.loop.pass c.try_finish.new.pass (length c.try_finish.new.pass.seen) c.loop.invariant.0 c.in-Ok.ensures.turn
