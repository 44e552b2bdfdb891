use Rattle.task_set.proofs.Carried.{carried_context-latest}
use Rattle.task_set.proofs.laws.latest_stint_is_carried_last.Goals as goal

pub returns : goal.returns
returns c = carried_context-latest
