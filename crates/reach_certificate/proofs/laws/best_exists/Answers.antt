use Rattle.reach_certificate.proofs.BestFound as found
use Rattle.reach_certificate.proofs.laws.best_exists.Goals as goal

pub returns : goal.returns
returns c = found.best_exists
