use Rattle.weak_apa.proofs.Counted.{IsFoundOnly}
use Rattle.weak_apa.proofs.comparison.first_only_in.Given as goal

abbrev pub invariant-loop-p : goal.invariant-loop-p
invariant-loop-p l = IsFoundOnly l.one l.other l.p l.found
