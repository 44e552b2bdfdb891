use Rattle.std.proofs.Common.{◌≡◌, length}
use Rattle.job_release.specs.Driving.{AreFresh}
use Rattle.job_release.proofs.driver.fresh_rows.Given as goal

abbrev pub invariant-loop-t : goal.invariant-loop-t
invariant-loop-t l = record {
  end : l.t-end ≡ length l.input.jobs;
  fresh : AreFresh l.input.jobs l.t l.rows.items;
}
