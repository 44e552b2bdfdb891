use Rattle.std.proofs.Common.{arith}
use Rattle.job_release.specs.Driving.{driver_of, settled, supplied}
use Rattle.job_release.proofs.DriveSteps.{all_moved}
use Rattle.job_release.proofs.driver.Driver.release.Goals as goal

pub returns-clause-supplied : goal.returns-clause-supplied
returns-clause-supplied g c =
    let seen = g.S.JobScheduler.seen in
    let moment = c.args.self.now.moment in
    let end = c.loop-t.invariant.end in
    let from = c.loop-t-test.false in
    let auto = c.loop-t.auto.t-end in
    all_moved (driver_of seen c.args.self.now) (driver_of seen c.loop-t.self) c.loop-t.t (supplied moment) (settled moment) (omega arith)
    (omega arith) c.loop-t.invariant.driving
