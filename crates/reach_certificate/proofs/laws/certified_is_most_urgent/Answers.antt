use Rattle.strong_apa.proofs.Best.{linked_is_largest}
use Rattle.strong_apa.proofs.Fullness.{linked_keeps_up}
use Rattle.strong_apa.proofs.Ranked.{linked_is_as_urgent}
use Rattle.reach_certificate.proofs.laws.certified_is_most_urgent.Goals as goal

pub returns-clause-largest : goal.returns-clause-largest
returns-clause-largest c = linked_is_largest

pub returns-clause-keeps_up : goal.returns-clause-keeps_up
returns-clause-keeps_up c = linked_keeps_up

pub returns-clause-rank_by_rank : goal.returns-clause-rank_by_rank
returns-clause-rank_by_rank c = linked_is_as_urgent
