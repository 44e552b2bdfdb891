use Rattle.std.proofs.Common.{refl}
use Rattle.strong_apa.specs.State.{IsState}
use Rattle.job_release.proofs.Fresh.{driving_fresh, fresh_jobs}
use Rattle.job_release.proofs.driver.Driver.new.Goals as goal

pub returns : goal.returns
returns g c =
    let input = c.args.input.now in
    let scheduler = g.S.JobScheduler.seen c.args.scheduler in
    let fresh = c.in_ok-rows.ensures in
    let state : IsState scheduler.now = rw c.links-valid.ensures.value at c.links-valid.ensures.valid in
    let driving = driving_fresh input scheduler c.in_ok-rows.rows.items c.horizon.ensures.valid state c.requires fresh in
    record {
      start = c.requires.start;
      jobs = fresh_jobs input.jobs c.in_ok-rows.rows.items fresh.count (λ t d within. (fresh.each t d (rw fresh.count at within)).jobs);
      horizon = c.horizon.ensures.value;
      moment = refl;
      at_start = rw c.horizon.ensures.value driving;
    }
