use Rattle.scheduling_laws.proofs.UrgentWork.{linked_does_most_work}
use Rattle.scheduling_laws.proofs.laws.most_urgent_work_is_done.Goals as goal

pub returns : goal.returns
returns c = linked_does_most_work
