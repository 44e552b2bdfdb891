use Rattle.std.proofs.Common.{◌≡◌, ◌++◌, length}
use Rattle.std.specs.List.{flat_map, range_with_len}
use Rattle.job_release.specs.WeakJobsText.{rows_of_task}
use Rattle.job_release.proofs.comparison.write_jobs.Given as goal

abbrev pub invariant-loop-t : goal.invariant-loop-t
invariant-loop-t g l = record {
  end : l.t-end ≡ length l.input.set.tasks;
  written : l.text.items ≡ l.fn.text.items ++ flat_map
      (rows_of_task l.input (g.W.JobScheduler.seen l.weak.scheduler).states (g.S.JobScheduler.seen l.strong.scheduler).states)
      (range_with_len 0 l.t);
}
