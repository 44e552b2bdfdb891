use Rattle.std.proofs.Common.{◌≡◌, ◌++◌, length}
use Rattle.std.specs.List.{flat_map, range_with_len}
use Rattle.strong_apa.specs.State.{start_of}
use Rattle.job_release.specs.JobInput.{jobs_at}
use Rattle.job_release.specs.JobsText.{line_of_job}
use Rattle.job_release.specs.Moments.{state_of_moment}
use Rattle.job_release.proofs.write.write_task.Given as goal

abbrev pub invariant-loop-k : goal.invariant-loop-k
invariant-loop-k l = record {
  end : l.k-end ≡ length (jobs_at l.input.jobs l.t);
  written : l.text.items ≡ l.fn.text.items ++ flat_map (line_of_job l.input (state_of_moment (start_of l.input.set) l.run.core.history) l.t)
      (range_with_len 0 l.k);
}
