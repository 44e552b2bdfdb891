-- What holds after each call.
use Rattle.strong_apa.specs.State.{State, IsState}
use Rattle.strong_apa.specs.Certified.{HasCertificates}
use Rattle.strong_apa.specs.Improving.{HasNoImprovingChain}
use Rattle.strong_apa.specs.CertificateLaws.{LinkedIsBest, LinkedIsLargest, LinkedIsAsUrgent}

-- the links are a placement of ready tasks, each waiting task has a certificate, no chain improves
-- the links, and the linked tasks are the best placeable set of the ready ones; no such set is
-- larger, and none is more urgent at any rank
pub record IsOptimal (s : State) : Type 0 where
  pub valid : IsState s
  pub certified : HasCertificates s
  pub unimprovable : HasNoImprovingChain s
  pub best : LinkedIsBest s
  pub largest : LinkedIsLargest s
  pub rank_by_rank : LinkedIsAsUrgent s
