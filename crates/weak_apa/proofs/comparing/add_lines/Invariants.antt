use Rattle.weak_apa.proofs.ComparedSoFar.{IsCompared}
use Rattle.weak_apa.proofs.comparing.add_lines.Given as goal

abbrev pub invariant-loop-posted : goal.invariant-loop-posted
invariant-loop-posted l = IsCompared l.input.set l.input.events l.posted-index l.weak l.core l.text.items
