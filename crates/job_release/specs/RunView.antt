-- What contracts see of a run, and what its stored parts keep.
use Rattle.std.specs.Prelude.{◌≡◌, ℕ, ◌<◌, ◌≤◌, length, get_or}
use Rattle.job_release.specs.Driving.{done_of, jobs_of, job_row_at}
use Rattle.job_release.specs.Jobs.{goal_of}
use Rattle.job_release.specs.JobRun.{DrivenData, JobRunData}
use Rattle.job_release.specs.Moments.{Timeline, IsFinish, IsUnfinished}
use Rattle.job_release.specs.Moves.{moves_of}
use Rattle.job_release.specs.Scheduler.{SchedulerData}
use Rattle.job_release.specs.declared.row.JobRow.{JobRow}
use Rattle.job_release.specs.declared.run.Driven.TheInside as driven
use Rattle.job_release.specs.declared.run.JobRun.TheInside as strong

-- the parts that are stored
abbrev pub driven_view : {S : Type 0} → driven.Inside S → DrivenData S
driven_view a = record { horizon = a.horizon; jobs = jobs_of a.rows.items; scheduler = a.scheduler }

-- the row of task t has the finishes of all its jobs that are finished by the horizon
pub record RowIsKept (states : Timeline) (horizon t : ℕ) (row : JobRow) : Type 0 where
  pub finishes : (k d : ℕ) → k < done_of row
      → IsFinish states t (goal_of row.jobs.items k) horizon (get_or row.finishes.items k d)
  pub unfinished : (k : ℕ) → done_of row ≤ k → k < length row.jobs.items
      → IsUnfinished states t (goal_of row.jobs.items k) horizon
  pub moves : row.moves ≡ moves_of states t horizon

-- what is stored is what the moments give
pub record IsKept {S : Type 0} (seen : S → SchedulerData) (a : driven.Inside S) : Type 0 where
  pub few : length a.rows.items ≤ 1024
  pub within : a.horizon ≤ 10000000
  pub rows : (t : ℕ) (d : JobRow) → t < length a.rows.items
      → RowIsKept (seen a.scheduler).states a.horizon t (job_row_at a.rows.items t d)

-- the core of the strong scheduler
abbrev pub run_view : strong.Inside → JobRunData
run_view a = record { horizon = a.driven.horizon; jobs = a.driven.jobs; core = a.driven.scheduler }
