use Rattle.job_release.proofs.Decided as decided
use Rattle.job_release.proofs.laws.text_is_of_valid_input.Goals as goal

pub returns : goal.returns
returns c = decided.text_is_of_valid_input
