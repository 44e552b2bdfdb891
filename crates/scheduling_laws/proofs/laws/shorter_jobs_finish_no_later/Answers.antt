use Rattle.scheduling_laws.proofs.Sustained as sustained
use Rattle.scheduling_laws.proofs.laws.shorter_jobs_finish_no_later.Goals as goal

pub returns-clause-done : goal.returns-clause-done
returns-clause-done c = sustained.shorter_jobs_keep_up

pub returns-clause-finish : goal.returns-clause-finish
returns-clause-finish c = sustained.shorter_jobs_finish_no_later
