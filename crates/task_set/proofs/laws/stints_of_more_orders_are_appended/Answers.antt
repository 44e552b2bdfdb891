use Rattle.std.proofs.Common.{None}
use Rattle.task_set.proofs.Stints.{stints_from-append}
use Rattle.task_set.proofs.laws.stints_of_more_orders_are_appended.Goals as goal

pub returns : goal.returns
returns c = λ p. stints_from-append p None
