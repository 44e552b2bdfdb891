use Rattle.commands.proofs.OneVerdict as verdict
use Rattle.commands.proofs.laws.valid_is_not_invalid.Goals as goal

pub returns : goal.returns
returns c = verdict.valid_is_not_invalid
