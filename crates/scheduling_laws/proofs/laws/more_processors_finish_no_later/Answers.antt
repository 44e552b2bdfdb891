use Rattle.scheduling_laws.proofs.Sustained.{more_processors_keep_up, more_processors_finish_no_later}
use Rattle.scheduling_laws.proofs.laws.more_processors_finish_no_later.Goals as goal

pub returns-clause-done : goal.returns-clause-done
returns-clause-done c = more_processors_keep_up

pub returns-clause-finish : goal.returns-clause-finish
returns-clause-finish c = more_processors_finish_no_later
