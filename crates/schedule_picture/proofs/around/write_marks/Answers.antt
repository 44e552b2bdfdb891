use Rattle.schedule_picture.proofs.Elements.{keeps_same, keeps_then}
use Rattle.schedule_picture.proofs.around.write_marks.Goals as goal

pub loop-p-init : goal.loop-p-init
loop-p-init c = keeps_same _

pub loop-p-preserved : goal.loop-p-preserved
loop-p-preserved c = keeps_then _ _ _ c.loop-p.invariant c.in_ok-write_lane_marks.ensures
