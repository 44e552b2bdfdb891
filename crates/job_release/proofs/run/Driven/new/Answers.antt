use Rattle.std.proofs.Common.{arith}
use Rattle.strong_apa.specs.State.{is_ready}
use Rattle.job_release.specs.Driving.{job_row_at}
use Rattle.job_release.proofs.Runs.{row_at_end}
use Rattle.job_release.proofs.run.Driven.new.Goals as goal

pub invariant_of-result : goal.invariant_of-result
invariant_of-result g c =
    let d = c.args.driver in
    let seen = g.S.JobScheduler.seen d.scheduler in
    let count = c.requires.at_end.one_each in
    let few = c.requires.at_end.state.count in
    record {
      few = omega arith;
      within = c.requires.at_end.horizon_fits;
      rows = λ t row within. row_at_end seen.states d.horizon d.moment t (is_ready seen.now t) (job_row_at d.rows.items t row)
          c.requires.whole (c.requires.at_end.rows_moved t row within within);
    }
