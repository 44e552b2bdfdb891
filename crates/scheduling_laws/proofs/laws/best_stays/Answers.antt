use Rattle.scheduling_laws.proofs.Staying as staying
use Rattle.scheduling_laws.proofs.laws.best_stays.Goals as goal

pub returns : goal.returns
returns c = staying.best_stays
