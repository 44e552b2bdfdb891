use Rattle.schedule_picture.specs.Elements.{Keeps}
use Rattle.schedule_picture.proofs.around.write_marks.Given as goal

abbrev pub invariant-loop-p : goal.invariant-loop-p
invariant-loop-p l = Keeps l.fn.text.items l.text.items
