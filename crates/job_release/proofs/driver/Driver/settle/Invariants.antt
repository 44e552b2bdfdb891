use Rattle.std.proofs.Common.{◌≡◌, length}
use Rattle.job_release.specs.Driving.{Drives, grown, settled}
use Rattle.job_release.proofs.driver.Driver.settle.Given as goal

abbrev pub invariant-loop-t : goal.invariant-loop-t
invariant-loop-t g l = record {
  end : l.t-end ≡ length l.fn.self.rows.items;
  same : l.self.moment ≡ l.fn.self.moment;
  driving : Drives g.S.JobScheduler.seen l.fn.self l.self l.t (settled l.fn.self.moment) (grown l.fn.self.moment);
}
