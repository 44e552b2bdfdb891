-- Runs of jobs: the horizon, the jobs of each task, and the scheduler that ran them, or the core of
-- the strong one.
use Rattle.std.specs.Prelude.{◌≡◌, ℕ, List, map, All}
use Rattle.task_set.specs.Event.{HasUnits}
use Rattle.strong_apa.specs.declared.reply.Entry.{Entry}
use Rattle.strong_apa.specs.State.{start_of}
use Rattle.sched_core.specs.CoreData.{CoreData, IsCore}
use Rattle.job_release.specs.JobInput.{JobInputData}
use Rattle.job_release.specs.declared.input.Job.{Job}
use Rattle.job_release.specs.Driven.{RunsJobs, ServesJobs}
use Rattle.job_release.specs.EventCauses.{AreAskedFor}
use Rattle.job_release.specs.Moments.{state_of_moment}
use Rattle.job_release.specs.Scheduler.{SchedulerData}

-- ---- any scheduler
-- what contracts see of what a scheduler made of jobs
pub record DrivenData (S : Type 0) : Type 0 where
  pub horizon : ℕ
  pub jobs : List (List Job)
  pub scheduler : S

-- the scheduler began with the tasks of the input, all moments up to its horizon have passed, at
-- each of them its jobs were served, and it was given the events that the jobs ask for
pub record IsDrivenOf {S : Type 0} (seen : S → SchedulerData) (input : JobInputData)
    (driven : DrivenData S) : Type 0 where
  pub horizon : driven.horizon ≡ input.horizon
  pub jobs : driven.jobs ≡ input.jobs
  pub start : (seen driven.scheduler).start ≡ start_of input.set
  pub whole : (seen driven.scheduler).elapsed ≡ input.horizon
  pub served : ServesJobs input (seen driven.scheduler).states
  pub asked : AreAskedFor input (seen driven.scheduler).events (seen driven.scheduler).states

-- ---- the strong one
-- what contracts see of a run
pub record JobRunData : Type 0 where
  pub horizon : ℕ
  pub jobs : List (List Job)
  pub core : CoreData

-- what holds of each run
pub record IsValidRun (run : JobRunData) : Type 0 where
  pub core : IsCore run.core

-- the entries are such as a text has: all are on stream 0, and each tick has from 1 to 1,000,000
-- units
pub record CanBeWritten (history : List Entry) : Type 0 where
  pub callers : All (λ (entry : Entry). entry.caller ≡ 0) history
  pub units : All (λ (entry : Entry). HasUnits entry.event) history

-- the run is one of the input: it has its horizon and its jobs, and begins with its tasks
pub record IsOfInput (input : JobInputData) (run : JobRunData) : Type 0 where
  pub horizon : run.horizon ≡ input.horizon
  pub jobs : run.jobs ≡ input.jobs
  pub start : run.core.start ≡ start_of input.set

-- the events of a history are those that the jobs of the input ask for
abbrev pub HasEventsOf : JobInputData → List Entry → Type 0
HasEventsOf input history = AreAskedFor input (map (λ (entry : Entry). entry.event) history)
    (state_of_moment (start_of input.set) history)

-- and its history runs the jobs, with the events that they ask for
pub record IsJobRunOf (input : JobInputData) (run : JobRunData) : Type 0 where
  pub of_input : IsOfInput input run
  pub runs : RunsJobs input run.core.history
  pub asked : HasEventsOf input run.core.history
