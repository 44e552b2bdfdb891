use Rattle.history_laws.proofs.OrderStops.{sent_is_obeyable, next_sent_may_come}
use Rattle.history_laws.proofs.order_laws.sent_orders_are_obeyable.Goals as goal

pub returns-clause-sent : goal.returns-clause-sent
returns-clause-sent c = sent_is_obeyable

pub returns-clause-next : goal.returns-clause-next
returns-clause-next c = next_sent_may_come
