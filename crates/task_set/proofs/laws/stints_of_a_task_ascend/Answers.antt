use Rattle.task_set.proofs.Carried.{IsPermutation-stints_of_task, AllPairs-stints_of_task}
use Rattle.task_set.proofs.laws.stints_of_a_task_ascend.Goals as goal

pub returns : goal.returns
returns c = λ t stints. (IsPermutation-stints_of_task t stints, AllPairs-stints_of_task t stints)
