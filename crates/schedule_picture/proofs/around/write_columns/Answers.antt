use Rattle.schedule_picture.proofs.Elements.{keeps_same, keeps_then}
use Rattle.schedule_picture.proofs.around.write_columns.Goals as goal

pub loop-i-init : goal.loop-i-init
loop-i-init c = keeps_same _

pub loop-i-preserved : goal.loop-i-preserved
loop-i-preserved c = keeps_then _ _ _ c.loop-i.invariant c.in_ok-write_column.ensures
