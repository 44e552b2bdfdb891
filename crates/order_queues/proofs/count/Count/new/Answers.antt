use Rattle.std.proofs.Common.{rules, arith, refl}
use Rattle.order_queues.proofs.CountSteps.{split_keeps}
use Rattle.order_queues.proofs.count.Count.new.Goals as goal

pub split_seat-other-requires : goal.split_seat-other-requires
split_seat-other-requires c = (search rules, search rules, split_keeps _ _ _ refl refl (omega arith))
