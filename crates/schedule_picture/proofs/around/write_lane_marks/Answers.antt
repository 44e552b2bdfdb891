use Rattle.schedule_picture.proofs.Elements.{keeps_same, keeps_then}
use Rattle.schedule_picture.proofs.around.write_lane_marks.Goals as goal

pub loop-span-init : goal.loop-span-init
loop-span-init c = keeps_same _

pub loop-span-preserved : goal.loop-span-preserved
loop-span-preserved c = keeps_then _ _ _ c.loop-span.invariant c.in_ok-write_mark.ensures
