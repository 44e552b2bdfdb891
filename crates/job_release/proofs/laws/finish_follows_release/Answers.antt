use Rattle.job_release.proofs.Finishes as finishes
use Rattle.job_release.proofs.laws.finish_follows_release.Goals as goal

pub returns : goal.returns
returns c = finishes.finish_follows_release
