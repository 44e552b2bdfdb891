use Rattle.scheduling_laws.proofs.InReach.{legal_conserves_work, passing_conserves_work}
use Rattle.scheduling_laws.proofs.laws.no_processor_idles.Goals as goal

pub returns-clause-legal : goal.returns-clause-legal
returns-clause-legal c = legal_conserves_work

pub returns-clause-passing : goal.returns-clause-passing
returns-clause-passing c = passing_conserves_work
