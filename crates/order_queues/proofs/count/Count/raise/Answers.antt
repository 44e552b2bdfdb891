use Rattle.std.proofs.Common.{rules, ap}
use Rattle.order_queues.specs.Count.{Seated}
use Rattle.order_queues.proofs.CountSteps.{store_keeps}
use Rattle.order_queues.proofs.count.Count.raise.Goals as goal

pub store-requires : goal.store-requires
store-requires c = (search rules, search rules, store_keeps _ _ _ _ _ (ap (λ (x : Seated). x.0) c.args.writer.now.role) c.requires.next)
