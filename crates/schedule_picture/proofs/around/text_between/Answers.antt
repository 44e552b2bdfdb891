use Rattle.schedule_picture.proofs.Elements.{goes_on_by}
use Rattle.schedule_picture.proofs.around.text_between.Goals as goal

pub returns : goal.returns
returns c = goes_on_by _ _ _ _ _ c.new-text.ensures.items c.in_ok-write_marks.ensures c.in_ok-write_moves.ensures
    c.in_ok-write_legend.ensures c.in_ok-write_names.ensures
