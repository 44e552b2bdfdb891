use Rattle.history_laws.proofs.OrderCounts as orders
use Rattle.history_laws.proofs.order_laws.orders_are_few.Goals as goal

pub returns-clause-from_start : goal.returns-clause-from_start
returns-clause-from_start c = orders.orders_count-from

pub returns-clause-of_set : goal.returns-clause-of_set
returns-clause-of_set c = orders.orders_count
