use Rattle.std.proofs.Common.{None}
use Rattle.task_set.proofs.Obeyable.{IsObeyableFrom-front}
use Rattle.task_set.proofs.laws.prefix_of_obeyable.Goals as goal

pub returns : goal.returns
returns c = IsObeyableFrom-front None
