use Rattle.commands.proofs.OneVerdict as verdict
use Rattle.commands.proofs.laws.invalid_is_unique.Goals as goal

pub returns : goal.returns
returns c = verdict.invalid_once
