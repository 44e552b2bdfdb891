use Rattle.std.proofs.Common.{subst}
use Rattle.live_core.specs.Live.{LiveData}
use Rattle.live_core.specs.Optimal.{IsOptimal}
use Rattle.live_core.proofs.ComingAndGoing.{optimal}
use Rattle.live_core.proofs.live.LiveCore.admit.Goals as goal

pub returns-in-Err-clause-optimal : goal.returns-in-Err-clause-optimal
returns-in-Err-clause-optimal c = subst (λ (d : LiveData). IsOptimal d.links) c.self.view_is
    (optimal c.self.inside.links c.self.invariant.state c.self.invariant.certificates)
