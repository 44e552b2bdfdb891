use Rattle.std.proofs.Common.{None}
use Rattle.task_set.proofs.Obeyable.{nothing_after_stop}
use Rattle.task_set.proofs.laws.nothing_follows_stop.Goals as goal

pub returns : goal.returns
returns c = nothing_after_stop None
