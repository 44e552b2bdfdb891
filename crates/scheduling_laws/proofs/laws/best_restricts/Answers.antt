use Rattle.scheduling_laws.proofs.Urgency as urgency
use Rattle.scheduling_laws.proofs.laws.best_restricts.Goals as goal

pub returns : goal.returns
returns c = urgency.best_restricts
