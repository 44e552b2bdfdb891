use Rattle.history_laws.proofs.OrderStops as stops
use Rattle.history_laws.proofs.order_laws.stop_comes_at_close.Goals as goal

pub returns-clause-adds : goal.returns-clause-adds
returns-clause-adds c = stops.close_adds_orders

pub returns-clause-not_before : goal.returns-clause-not_before
returns-clause-not_before c = stops.no_stop_before_close

pub returns-clause-at_close : goal.returns-clause-at_close
returns-clause-at_close c = stops.stop_comes_at_close
