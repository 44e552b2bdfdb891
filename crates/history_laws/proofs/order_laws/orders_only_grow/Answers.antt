use Rattle.history_laws.proofs.OrderPrefixes.{orders_only_grow}
use Rattle.history_laws.proofs.order_laws.orders_only_grow.Goals as goal

pub returns : goal.returns
returns c = orders_only_grow
