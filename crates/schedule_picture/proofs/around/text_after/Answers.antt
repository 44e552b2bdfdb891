use Rattle.schedule_picture.proofs.Elements.{ends_by}
use Rattle.schedule_picture.proofs.around.text_after.Goals as goal

pub returns : goal.returns
returns c = ends_by _ _ _ _ c.new-text.ensures.items c.in_ok-write_places.ensures c.in_ok-write_turns.ensures c.in_ok-put.ensures
