use Rattle.scheduling_laws.proofs.Going.{orders_can_go_on-from, orders_can_go_on}
use Rattle.scheduling_laws.proofs.laws.orders_can_go_on.Goals as goal

pub returns-clause-from_start : goal.returns-clause-from_start
returns-clause-from_start c = orders_can_go_on-from

pub returns-clause-of_set : goal.returns-clause-of_set
returns-clause-of_set c = orders_can_go_on
