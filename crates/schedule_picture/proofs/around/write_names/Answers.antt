use Rattle.schedule_picture.proofs.Elements.{keeps_same, keeps_then}
use Rattle.schedule_picture.proofs.around.write_names.Goals as goal

pub loop-k-init : goal.loop-k-init
loop-k-init c = keeps_same _

pub loop-k-preserved : goal.loop-k-preserved
loop-k-preserved c = keeps_then _ _ _ c.loop-k.invariant c.in_ok-write_task.ensures
