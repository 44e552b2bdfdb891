use Rattle.reach_certificate.proofs.MostUrgent.{IsFoundOf}
use Rattle.reach_certificate.proofs.admission.most_urgent_absent.Given as goal

abbrev pub invariant-loop-t : goal.invariant-loop-t
invariant-loop-t l = IsFoundOf l.links l.tasks l.t-index l.found
