use Rattle.scheduling_laws.proofs.Isolation.{urgent_service_is_isolated, urgent_finish_is_isolated}
use Rattle.scheduling_laws.proofs.laws.urgent_tasks_are_isolated.Goals as goal

pub returns-clause-service : goal.returns-clause-service
returns-clause-service c = urgent_service_is_isolated

pub returns-clause-finish : goal.returns-clause-finish
returns-clause-finish c = urgent_finish_is_isolated
