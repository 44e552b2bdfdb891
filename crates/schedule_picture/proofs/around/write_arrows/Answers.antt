use Rattle.schedule_picture.proofs.Elements.{keeps_same, keeps_then}
use Rattle.schedule_picture.proofs.around.write_arrows.Goals as goal

pub loop-found-init : goal.loop-found-init
loop-found-init c = keeps_same _

pub loop-found-preserved : goal.loop-found-preserved
loop-found-preserved c = keeps_then _ _ _ c.loop-found.invariant c.in_ok-write_arrow.ensures
