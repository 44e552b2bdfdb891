use Rattle.commands.proofs.JobsOneText as once
use Rattle.commands.proofs.laws.jobs_text_is_unique.Goals as goal

pub returns : goal.returns
returns c = once.jobs_text_is_unique
