use Rattle.std.proofs.Common.{◌≡◌, ◌++◌, length}
use Rattle.std.specs.List.{flat_map, range_with_len}
use Rattle.strong_apa.specs.State.{start_of}
use Rattle.job_release.specs.JobsText.{lines_of_task}
use Rattle.job_release.specs.Moments.{state_of_moment}
use Rattle.job_release.proofs.write.write_tasks.Given as goal

abbrev pub invariant-loop-t : goal.invariant-loop-t
invariant-loop-t l = record {
  end : l.t-end ≡ length l.input.set.tasks;
  written : l.text.items ≡ l.fn.text.items ++ flat_map (lines_of_task l.input (state_of_moment (start_of l.input.set) l.run.core.history))
      (range_with_len 0 l.t);
}
