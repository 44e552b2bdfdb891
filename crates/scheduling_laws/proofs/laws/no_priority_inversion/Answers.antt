use Rattle.scheduling_laws.proofs.InReach.{legal_has_no_inversion, passing_has_no_inversion}
use Rattle.scheduling_laws.proofs.laws.no_priority_inversion.Goals as goal

pub returns-clause-legal : goal.returns-clause-legal
returns-clause-legal c = legal_has_no_inversion

pub returns-clause-passing : goal.returns-clause-passing
returns-clause-passing c = passing_has_no_inversion
