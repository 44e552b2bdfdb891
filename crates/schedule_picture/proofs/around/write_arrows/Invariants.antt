use Rattle.schedule_picture.specs.Elements.{Keeps}
use Rattle.schedule_picture.proofs.around.write_arrows.Given as goal

abbrev pub invariant-loop-found : goal.invariant-loop-found
invariant-loop-found l = Keeps l.fn.text.items l.text.items
