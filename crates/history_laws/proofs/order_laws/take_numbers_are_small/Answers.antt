use Rattle.history_laws.proofs.OrderNames as orders
use Rattle.history_laws.proofs.order_laws.take_numbers_are_small.Goals as goal

pub returns-clause-from_start : goal.returns-clause-from_start
returns-clause-from_start c = orders.take_numbers_small-from

pub returns-clause-of_set : goal.returns-clause-of_set
returns-clause-of_set c = orders.take_numbers_small
