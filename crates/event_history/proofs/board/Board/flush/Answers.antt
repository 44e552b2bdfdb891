use Rattle.std.proofs.Common.{◌∙◌, List, length, sym, subst}
use Rattle.order_queues.specs.Ends.{EyeData}
use Rattle.event_history.specs.Boards.{AreEyesOf}
use Rattle.event_history.specs.Flushing.{EyesFlushed}
use Rattle.event_history.specs.Ordering.{orders_seen}
use Rattle.event_history.proofs.Waiting.{grown_more, saw_more, turn_more}
use Rattle.event_history.proofs.board.Board.flush.Goals as goal

pub try_flush-requires-clause-eyes : goal.try_flush-requires-clause-eyes
try_flush-requires-clause-eyes g c = subst (AreEyesOf c.args.self.now.queues) (sym c.loop.invariant.2) c.requires.eyes

pub loop-preserved : goal.loop-preserved
loop-preserved g c = (
  grown_more _ _ _ c.loop.invariant.0 c.try_flush.ensures.grown,
  c.try_flush.ensures.mine ∙ c.loop.invariant.1,
  c.in-Err.ensures.busy.0
      ∙ c.loop.invariant.2,
)

pub returns-in-Ok-clause-flushed : goal.returns-in-Ok-clause-flushed
returns-in-Ok-clause-flushed g c =
    let after = c.try_flush.new.pass in
    subst (λ (eyes : List EyeData). EyesFlushed (λ p. length (orders_seen c.args.self.now.set after p)) eyes after.eyes c.in-Ok.owed)
    c.loop.invariant.2 c.in-Ok.ensures.flushed.1

pub returns-in-Ok-clause-grown : goal.returns-in-Ok-clause-grown
returns-in-Ok-clause-grown g c = grown_more _ _ _ c.loop.invariant.0 c.try_flush.ensures.grown

pub returns-in-Ok-clause-seen : goal.returns-in-Ok-clause-seen
returns-in-Ok-clause-seen g c = saw_more _ _ _ _ c.loop.invariant.1 c.in-Ok.ensures.flushed.0

pub returns-in-Ok-clause-turn : goal.returns-in-Ok-clause-turn
returns-in-Ok-clause-turn g c =
    turn_more c.args.pass.now c.loop.pass c.try_flush.new.pass (length c.try_flush.new.pass.seen) c.loop.invariant.0 c.in-Ok.ensures.turn
