use Rattle.task_set.proofs.Carried.{carried_context-other}
use Rattle.task_set.proofs.laws.other_tasks_carry_on.Goals as goal

pub returns : goal.returns
returns c = carried_context-other
