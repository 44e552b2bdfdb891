use Rattle.std.proofs.Common.{None}
use Rattle.task_set.proofs.Obeyable.{MayCome-next}
use Rattle.task_set.proofs.laws.next_order_may_come.Goals as goal

pub returns : goal.returns
returns c = MayCome-next None
