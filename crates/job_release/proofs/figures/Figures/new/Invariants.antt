use Rattle.std.proofs.Common.{◌≡◌, length}
use Rattle.job_release.specs.JobInput.{jobs_at}
use Rattle.job_release.specs.Figures.{AreFiguresOf}
use Rattle.job_release.proofs.figures.Figures.new.Given as goal

abbrev pub invariant-loop-k : goal.invariant-loop-k
invariant-loop-k g l = record {
  end : l.k-end ≡ length (jobs_at l.input.jobs l.t);
  counted : AreFiguresOf l.input (g.S.JobScheduler.seen l.driven.scheduler).states l.t l.k l.figures;
}
