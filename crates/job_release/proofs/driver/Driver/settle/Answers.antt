use Rattle.std.proofs.Common.{arith}
use Rattle.job_release.specs.Driving.{driver_of, grown, settled}
use Rattle.job_release.proofs.DriveSteps.{all_moved}
use Rattle.job_release.proofs.driver.Driver.settle.Goals as goal

pub returns-clause-settled : goal.returns-clause-settled
returns-clause-settled g c =
    let seen = g.S.JobScheduler.seen in
    let moment = c.args.self.now.moment in
    let end = c.loop-t.invariant.end in
    let from = c.loop-t-test.false in
    let auto = c.loop-t.auto.t-end in
    all_moved (driver_of seen c.args.self.now) (driver_of seen c.loop-t.self) c.loop-t.t (settled moment) (grown moment) (omega arith)
    (omega arith) c.loop-t.invariant.driving
