use Rattle.scheduling_laws.proofs.ShiftCounts.{legal_shifts_few, passing_shifts_few}
use Rattle.scheduling_laws.proofs.laws.few_tasks_are_shifted.Goals as goal

pub returns-clause-legal : goal.returns-clause-legal
returns-clause-legal c = legal_shifts_few

pub returns-clause-passing : goal.returns-clause-passing
returns-clause-passing c = passing_shifts_few
