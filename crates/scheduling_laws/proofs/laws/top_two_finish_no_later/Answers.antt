use Rattle.scheduling_laws.proofs.TopTwo.{top_two_get_no_less, top_two_finish_no_later}
use Rattle.scheduling_laws.proofs.laws.top_two_finish_no_later.Goals as goal

pub returns-clause-service : goal.returns-clause-service
returns-clause-service c = top_two_get_no_less

pub returns-clause-finish : goal.returns-clause-finish
returns-clause-finish c = top_two_finish_no_later
