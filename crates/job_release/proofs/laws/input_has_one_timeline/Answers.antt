use Rattle.job_release.proofs.OneWeakText as one
use Rattle.job_release.proofs.laws.input_has_one_timeline.Goals as goal

pub returns : goal.returns
returns c = one.input_has_one_timeline
