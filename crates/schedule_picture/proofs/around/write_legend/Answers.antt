use Rattle.schedule_picture.proofs.Elements.{on_ok_then}
use Rattle.schedule_picture.proofs.around.write_legend.Goals as goal

pub returns : goal.returns
returns c = on_ok_then _ _ _ _ c.in_ok-write_legend_of_colours.ensures c.write_legend_of_marks.ensures
