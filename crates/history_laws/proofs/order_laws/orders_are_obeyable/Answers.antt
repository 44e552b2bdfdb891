use Rattle.history_laws.proofs.OrderLists as orders
use Rattle.history_laws.proofs.order_laws.orders_are_obeyable.Goals as goal

pub returns-clause-from_start : goal.returns-clause-from_start
returns-clause-from_start c = orders.orders_obeyable-from

pub returns-clause-of_set : goal.returns-clause-of_set
returns-clause-of_set c = orders.orders_obeyable
