use Rattle.std.proofs.Common.{◌≡◌, ℕ, ◌<◌, ◌^◌, length, get_or}
use Rattle.task_set.specs.TaskSet.{TaskData}
use Rattle.commands.proofs.jobs_schedule.read_priorities.Given as goal

abbrev pub invariant-loop-t : goal.invariant-loop-t
invariant-loop-t l = record {
  end : l.t-end ≡ length l.set.tasks;
  fit : (k : ℕ) (task : TaskData) → k < l.t → (get_or l.set.tasks k task).priority < 2 ^ 32;
}
