use Rattle.scheduling_laws.proofs.Weights.{best_weighs_most, legal_weighs_most, passing_weighs_most}
use Rattle.scheduling_laws.proofs.laws.linked_weighs_most.Goals as goal

pub returns-clause-best : goal.returns-clause-best
returns-clause-best c = best_weighs_most

pub returns-clause-legal : goal.returns-clause-legal
returns-clause-legal c = legal_weighs_most

pub returns-clause-passing : goal.returns-clause-passing
returns-clause-passing c = passing_weighs_most
