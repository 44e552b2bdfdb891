use Rattle.std.proofs.Common.{◌∙◌, length}
use Rattle.event_history.proofs.Waiting.{grown_more, posted_more, ended_more, refused_looks, turn_more, waited_more}
use Rattle.event_history.proofs.board.Board.post_as.Goals as goal

pub loop-preserved : goal.loop-preserved
loop-preserved g c = (
  waited_more _ _ _ c.in-Err.found c.loop.invariant.0 c.try_post_as.ensures.grown c.in-Err.ensures.busy,
  c.try_post_as.ensures.eyes
      ∙ c.loop.invariant.1,
)

pub returns-in-Ok-Ok-clause-grown : goal.returns-in-Ok-Ok-clause-grown
returns-in-Ok-Ok-clause-grown g c = grown_more _ _ _ c.loop.invariant.0.grown c.try_post_as.ensures.grown

pub returns-in-Ok-Ok-clause-eyes : goal.returns-in-Ok-Ok-clause-eyes
returns-in-Ok-Ok-clause-eyes g c = c.try_post_as.ensures.eyes ∙ c.loop.invariant.1

pub returns-in-Ok-Err-clause-eyes : goal.returns-in-Ok-Err-clause-eyes
returns-in-Ok-Err-clause-eyes g c = c.try_post_as.ensures.eyes ∙ c.loop.invariant.1

pub returns-in-Ok-Ok-clause-posted : goal.returns-in-Ok-Ok-clause-posted
returns-in-Ok-Ok-clause-posted g c =
    let told = rw c.in-Ok-Ok.field-0-is at c.in-Ok-Ok.ensures.posted in
    rw c.in-Ok-Ok.field-0-is
    record { receipt = told.receipt; is = told.is; holds = posted_more _ _ _ _ _ _ c.loop.invariant.0 told.holds.0 }

pub returns-in-Ok-Ok-clause-turn : goal.returns-in-Ok-Ok-clause-turn
returns-in-Ok-Ok-clause-turn g c =
    let told = rw c.in-Ok-Ok.field-0-is at c.in-Ok-Ok.ensures.posted in
    rw c.in-Ok-Ok.field-0-is record {
      receipt = told.receipt;
      is = told.is;
      holds = turn_more c.args.pass.now c.loop.pass c.try_post_as.new.pass told.receipt.place c.loop.invariant.0.grown told.holds.1;
    }

pub returns-in-Ok-Err-clause-grown : goal.returns-in-Ok-Err-clause-grown
returns-in-Ok-Err-clause-grown g c = grown_more _ _ _ c.loop.invariant.0.grown c.try_post_as.ensures.grown

pub returns-in-Ok-Err-clause-refused : goal.returns-in-Ok-Err-clause-refused
returns-in-Ok-Err-clause-refused g c =
    let refused = rw c.in-Ok-Err.field-0-is at c.in-Ok-Err.ensures.refused in
    rw (c.from.ensures, c.in-Ok-Err.field-0-is)
    (ended_more c.args.self.now.set c.args.pass.now c.loop.pass c.try_post_as.new.pass c.in-Ok-Err.fault c.loop.invariant.0 refused)

pub returns-in-Ok-Err-clause-turn : goal.returns-in-Ok-Err-clause-turn
returns-in-Ok-Err-clause-turn g c =
    let refused = rw c.in-Ok-Err.field-0-is at c.in-Ok-Err.ensures.refused in
    turn_more c.args.pass.now c.loop.pass c.try_post_as.new.pass (length c.try_post_as.new.pass.seen) c.loop.invariant.0.grown
    (refused_looks c.args.self.now.set c.loop.pass c.try_post_as.new.pass c.in-Ok-Err.fault refused)
