use Rattle.schedule_picture.proofs.Elements.{keeps_same, keeps_then}
use Rattle.schedule_picture.proofs.around.write_all_turns.Goals as goal

pub loop-turn-init : goal.loop-turn-init
loop-turn-init c = keeps_same _

pub loop-turn-preserved : goal.loop-turn-preserved
loop-turn-preserved c = keeps_then _ _ _ c.loop-turn.invariant c.in_ok-write_turn.ensures
