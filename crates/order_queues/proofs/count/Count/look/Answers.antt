use Rattle.std.proofs.Common.{rules, ap}
use Rattle.order_queues.specs.Count.{Seated}
use Rattle.order_queues.proofs.CountSteps.{look_keeps}
use Rattle.order_queues.proofs.count.Count.look.Goals as goal

pub load-requires : goal.load-requires
load-requires c = (search rules, search rules, look_keeps _ _ _ (ap (λ (x : Seated). x.0.writes) c.args.reader.now.role))
