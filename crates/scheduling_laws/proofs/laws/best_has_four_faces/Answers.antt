use Rattle.scheduling_laws.proofs.Faces.{best_is_certified, certified_is_without_chain, certified_is_by_reach}
use Rattle.scheduling_laws.proofs.laws.best_has_four_faces.Goals as goal

pub returns-clause-best : goal.returns-clause-best
returns-clause-best c = best_is_certified

pub returns-clause-chains : goal.returns-clause-chains
returns-clause-chains c = certified_is_without_chain

pub returns-clause-reaches : goal.returns-clause-reaches
returns-clause-reaches c = certified_is_by_reach
