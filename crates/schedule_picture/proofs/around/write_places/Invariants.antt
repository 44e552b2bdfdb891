use Rattle.schedule_picture.specs.Elements.{Keeps}
use Rattle.schedule_picture.proofs.around.write_places.Given as goal

abbrev pub invariant-loop-k : goal.invariant-loop-k
invariant-loop-k l = Keeps l.fn.text.items l.text.items
