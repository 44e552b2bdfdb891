use Rattle.schedule_picture.specs.Elements.{Keeps}
use Rattle.schedule_picture.proofs.around.write_times.Given as goal

abbrev pub invariant-loop-i : goal.invariant-loop-i
invariant-loop-i l = Keeps l.fn.text.items l.text.items
