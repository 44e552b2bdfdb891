use Rattle.std.proofs.Common.{◌∙◌, arith}
use Rattle.job_release.specs.Driving.{driver_of}
use Rattle.job_release.proofs.Runs.{serves_jobs, asked_at_end}
use Rattle.job_release.proofs.run.drive.Goals as goal

pub returns-clause-units : goal.returns-clause-units
returns-clause-units g c = rw c.new-2.ensures c.loop-driver.invariant.units

pub returns-clause-driven : goal.returns-clause-driven
returns-clause-driven g c =
    let input = c.args.input.now in
    let seen = g.S.JobScheduler.seen in
    let from = driver_of seen c.in_ok-driver.driver in
    let now = driver_of seen c.loop-driver.driver in
    let begun = c.in_ok-driver.ensures in
    let driving = c.loop-driver.invariant in
    let within = driving.within in
    let after = c.loop-driver-test.false in
    let same = driving.horizon in
    let horizon = begun.horizon in
    let run = c.new-2.ensures in
    rw run (record {
      horizon = same ∙ horizon;
      jobs = driving.same_jobs ∙ begun.jobs;
      start = driving.begins ∙ begun.start;
      whole = driving.at_moment ∙ omega arith;
      served = serves_jobs input from now begun.jobs (omega arith) driving;
      asked = asked_at_end input from now begun.jobs (omega arith) (same ∙ horizon) driving;
    })
