use Rattle.schedule_picture.specs.Elements.{Keeps}
use Rattle.schedule_picture.proofs.around.write_row_places.Given as goal

abbrev pub invariant-loop-span : goal.invariant-loop-span
invariant-loop-span l = Keeps l.fn.text.items l.text.items
