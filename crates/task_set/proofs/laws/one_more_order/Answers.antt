use Rattle.std.proofs.Common.{None}
use Rattle.task_set.proofs.Obeyable.{IsObeyableFrom-push}
use Rattle.task_set.proofs.laws.one_more_order.Goals as goal

pub returns : goal.returns
returns c = IsObeyableFrom-push None
