use Rattle.std.proofs.Common.{◌-◌}
use Rattle.job_release.specs.Driving.{IsAt, settled}
use Rattle.job_release.proofs.run.drive.Given as goal

abbrev pub invariant-loop-driver : goal.invariant-loop-driver
invariant-loop-driver g l = IsAt g.S.JobScheduler.seen l.initial.driver l.driver (settled l.driver.moment)

abbrev pub decreases-loop-driver : goal.decreases-loop-driver
decreases-loop-driver g l = l.driver.horizon - l.driver.moment
