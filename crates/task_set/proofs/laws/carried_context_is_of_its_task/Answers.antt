use Rattle.task_set.proofs.CarriedLast.{carried_context-own}
use Rattle.task_set.proofs.laws.carried_context_is_of_its_task.Goals as goal

pub returns : goal.returns
returns c = carried_context-own
