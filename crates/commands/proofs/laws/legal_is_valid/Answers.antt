use Rattle.commands.proofs.LegalSchedules as legal
use Rattle.commands.proofs.laws.legal_is_valid.Goals as goal

pub returns : goal.returns
returns c = legal.legal_is_valid
