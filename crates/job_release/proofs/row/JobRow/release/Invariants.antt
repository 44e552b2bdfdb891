use Rattle.std.proofs.Common.{◌≡◌, ℕ, ◌-◌, ◌<◌, ◌≤◌, length}
use Rattle.job_release.specs.Driving.{BeginsAt}
use Rattle.job_release.proofs.row.JobRow.release.Given as goal

abbrev pub invariant-loop-self : goal.invariant-loop-self
invariant-loop-self l = record {
  jobs : l.self.jobs ≡ l.fn.self.jobs;
  service : l.self.service ≡ l.fn.self.service;
  asked : l.self.asked ≡ l.fn.self.asked;
  finishes : l.self.finishes ≡ l.fn.self.finishes;
  place : l.self.place ≡ l.fn.self.place;
  moves : l.self.moves ≡ l.fn.self.moves;
  more : l.fn.self.released ≤ l.self.released;
  begin : (k : ℕ) → l.fn.self.released ≤ k → k < l.self.released → BeginsAt l.moment l.fn.self.jobs.items k;
}

abbrev pub decreases-loop-self : goal.decreases-loop-self
decreases-loop-self l = length l.self.jobs.items - l.self.released
