use Rattle.commands.proofs.OneVerdict as verdict
use Rattle.commands.proofs.laws.valid_has_no_improving_chain.Goals as goal

pub returns : goal.returns
returns c = verdict.valid_has_no_improving_chain
