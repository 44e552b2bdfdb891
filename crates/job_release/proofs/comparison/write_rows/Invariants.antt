use Rattle.std.proofs.Common.{◌≡◌, ◌++◌, length}
use Rattle.std.specs.List.{flat_map, range_with_len}
use Rattle.job_release.specs.JobInput.{jobs_at}
use Rattle.job_release.specs.WeakJobsText.{row_of_job}
use Rattle.job_release.proofs.comparison.write_rows.Given as goal

abbrev pub invariant-loop-k : goal.invariant-loop-k
invariant-loop-k g l = record {
  end : l.k-end ≡ length (jobs_at l.input.jobs l.t);
  written : l.text.items ≡ l.fn.text.items ++ flat_map
      (row_of_job l.input (g.W.JobScheduler.seen l.weak.scheduler).states (g.S.JobScheduler.seen l.strong.scheduler).states l.t)
      (range_with_len 0 l.k);
}
