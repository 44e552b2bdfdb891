use Rattle.history_laws.proofs.OrderStops.{stop_is_last_sent}
use Rattle.history_laws.proofs.order_laws.stop_is_last.Goals as goal

pub returns : goal.returns
returns c = stop_is_last_sent
