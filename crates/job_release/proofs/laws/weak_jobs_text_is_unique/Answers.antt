use Rattle.job_release.proofs.OneWeakText as one
use Rattle.job_release.proofs.laws.weak_jobs_text_is_unique.Goals as goal

pub returns-clause-timeline : goal.returns-clause-timeline
returns-clause-timeline c = one.input_has_one_weak_timeline

pub returns-clause-text : goal.returns-clause-text
returns-clause-text c = one.weak_jobs_text_is_unique
