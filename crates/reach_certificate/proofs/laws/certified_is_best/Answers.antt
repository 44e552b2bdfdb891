use Rattle.strong_apa.proofs.Best.{linked_is_best, linked_is_only_best}
use Rattle.reach_certificate.proofs.laws.certified_is_best.Goals as goal

pub returns-clause-best : goal.returns-clause-best
returns-clause-best c = linked_is_best

pub returns-clause-only : goal.returns-clause-only
returns-clause-only c = linked_is_only_best
