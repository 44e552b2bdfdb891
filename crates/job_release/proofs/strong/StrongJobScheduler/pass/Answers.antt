use Rattle.job_release.proofs.StrongSteps.{passes}
use Rattle.job_release.proofs.strong.StrongJobScheduler.pass.Goals as goal

pub returns : goal.returns
returns c = rw (← c.self.view_is) (passes c.self.inside.core c.enter.new.core c.in_ok-enter.ensures.valid_before c.in_ok-enter.ensures.valid
    c.args.units c.in_ok-enter.ensures.applied)
