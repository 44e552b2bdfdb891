-- Laws of the jobs of periodic tasks: what is said of lists of jobs is said of them by
-- multiplication. They rest on nothing but the definitions that they name.
use Rattle.std.specs.Prelude.{◌≡◌, ℕ, ◌+◌, ◌*◌, ◌<◌, ◌≤◌, Some}
use Rattle.job_release.specs.Jobs.{demand, goal_of, due_of, release_moment, released_before}
use Rattle.job_release.specs.Jobs.{released_by, periodic_jobs}
use Rattle.job_release.specs.declared.input.JobTask.{JobTask}

-- at a moment below the horizon a periodic task asks for the cost of each job that is released by
-- then
abbrev pub PeriodicDemand : Type 0
PeriodicDemand =
    (horizon : ℕ) (task : JobTask) (x : ℕ) → 1 ≤ task.period → x < horizon
    → demand (periodic_jobs horizon task) x ≡ released_by task x * task.cost

-- its job k is finished after the cost of k + 1 jobs
abbrev pub PeriodicGoals : Type 0
PeriodicGoals =
    (horizon : ℕ) (task : JobTask) (k : ℕ) → k < released_before task horizon
    → goal_of (periodic_jobs horizon task) k ≡ (k + 1) * task.cost

-- and is due when the next one is released, below the horizon or not
abbrev pub PeriodicDueTimes : Type 0
PeriodicDueTimes =
    (horizon : ℕ) (task : JobTask) (k : ℕ) → k < released_before task horizon
    → due_of (periodic_jobs horizon task) k ≡ Some (release_moment task (k + 1))
