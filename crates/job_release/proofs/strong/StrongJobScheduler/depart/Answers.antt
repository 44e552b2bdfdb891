use Rattle.job_release.proofs.StrongSteps.{departs}
use Rattle.job_release.proofs.strong.StrongJobScheduler.depart.Goals as goal

pub returns : goal.returns
returns c = rw (← c.self.view_is) (departs c.self.inside.core c.enter.new.core c.in_ok-enter.ensures.valid_before
    c.in_ok-enter.ensures.valid c.args.t c.in_ok-enter.ensures.applied)
