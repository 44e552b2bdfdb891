use Rattle.schedule_picture.proofs.Elements.{begins_by}
use Rattle.schedule_picture.proofs.around.text_before.Goals as goal

pub returns : goal.returns
returns c = begins_by _ _ _ _ _ c.new-text.ensures.items c.in_ok-write_opening.ensures c.in_ok-write_title.ensures
    c.in_ok-write_axis.ensures c.in_ok-write_processors.ensures
