use Rattle.history_laws.proofs.OrderNames as orders
use Rattle.history_laws.proofs.order_laws.orders_name_tasks.Goals as goal

pub returns-clause-from_start : goal.returns-clause-from_start
returns-clause-from_start c = orders.orders_name_tasks-from

pub returns-clause-of_set : goal.returns-clause-of_set
returns-clause-of_set c = orders.orders_name_tasks
