use Rattle.live_core.proofs.ComingAndGoing.{optimal}
use Rattle.live_core.proofs.live.LiveCore.retire.Goals as goal

pub returns-clause-optimal : goal.returns-clause-optimal
returns-clause-optimal c = optimal c.self.inside.links c.self.invariant.state c.self.invariant.certificates
