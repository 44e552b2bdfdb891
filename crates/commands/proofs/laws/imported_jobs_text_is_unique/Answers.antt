use Rattle.commands.proofs.TraceOneText as once
use Rattle.commands.proofs.laws.imported_jobs_text_is_unique.Goals as goal

pub returns : goal.returns
returns c = once.imported_jobs_text_is_unique
