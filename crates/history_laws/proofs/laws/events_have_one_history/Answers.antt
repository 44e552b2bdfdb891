use Rattle.history_laws.proofs.StepHistories.{legal_history_exists, legal_history_is_unique}
use Rattle.history_laws.proofs.laws.events_have_one_history.Goals as goal

pub returns-clause-exists : goal.returns-clause-exists
returns-clause-exists c = legal_history_exists

pub returns-clause-unique : goal.returns-clause-unique
returns-clause-unique c = legal_history_is_unique
