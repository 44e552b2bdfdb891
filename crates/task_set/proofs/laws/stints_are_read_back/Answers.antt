use Rattle.task_set.proofs.Stints.{stints_in-flat_map}
use Rattle.task_set.proofs.laws.stints_are_read_back.Goals as goal

pub returns : goal.returns
returns c = stints_in-flat_map
