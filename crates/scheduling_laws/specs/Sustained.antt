-- Inputs of jobs of which one asks for less than the other: its jobs are shorter, or some of its
-- tasks are missing.
use Rattle.std.specs.Prelude.{◌≡◌, ℕ, ◌<◌, ◌≤◌, List, length}
use Rattle.strong_apa.specs.declared.reply.Entry.{Entry}
use Rattle.strong_apa.specs.State.{start_of, priority_of, mask_of}
use Rattle.job_release.specs.Jobs.{job_at, goal_of}
use Rattle.job_release.specs.JobInput.{JobInputData, IsJobInput, jobs_at}
use Rattle.job_release.specs.declared.input.Job.{Job}
use Rattle.job_release.specs.Driven.{RunsJobs}
use Rattle.job_release.specs.Moments.{state_of_moment, service_of, IsFinish}
use Rattle.scheduling_laws.specs.Isolation.{IsUrgent}

-- a job is released at the moment of another, and asks for no more
pub record IsNoLonger (one other : Job) : Type 0 where
  pub release : one.release ≡ other.release
  pub cost : other.cost ≤ one.cost

-- t has the same priority and the same mask in both inputs, and as many jobs; each is released at
-- the same moment, and asks for no more in the other input. Their deadlines may differ
pub record AsksNoMore (one other : JobInputData) (t : ℕ) : Type 0 where
  pub priority : priority_of (start_of one.set) t ≡ priority_of (start_of other.set) t
  pub mask : mask_of (start_of one.set) t ≡ mask_of (start_of other.set) t
  pub count : length (jobs_at one.jobs t) ≡ length (jobs_at other.jobs t)
  pub each : (k : ℕ) → k < length (jobs_at one.jobs t)
      → IsNoLonger (job_at (jobs_at one.jobs t) k) (job_at (jobs_at other.jobs t) k)

-- the inputs have the same processors and the same horizon; each task of the other one that is as
-- urgent as the bound is a task of the one, and asks for no more
pub record AsksNoMoreUpTo (bound : ℕ) (one other : JobInputData) : Type 0 where
  pub processors : one.set.processors ≡ other.set.processors
  pub horizon : one.horizon ≡ other.horizon
  pub urgent : (t : ℕ) → IsUrgent other bound t → IsUrgent one bound t
  pub each : (t : ℕ) → IsUrgent other bound t → AsksNoMore one other t

-- what holds of each urgent task of the other input in histories that run the jobs of two such
-- inputs
abbrev pub HoldsWhereLessIsAsked : ((one other : JobInputData) → List Entry → List Entry → ℕ
    → Type 0) → Type 0
HoldsWhereLessIsAsked Law =
    (bound : ℕ) (one other : JobInputData) (history also : List Entry) (t : ℕ)
    → IsJobInput one → IsJobInput other → AsksNoMoreUpTo bound one other → RunsJobs one history
    → RunsJobs other also
    → IsUrgent other bound t → Law one other history also t

-- a task has as many of its jobs done before each moment in the other run
abbrev pub JobsKeepUp : JobInputData → JobInputData → List Entry → List Entry → ℕ → Type 0
JobsKeepUp one other history also t = (k x : ℕ) → x ≤ one.horizon
    → goal_of (jobs_at one.jobs t) k ≤ service_of (state_of_moment (start_of one.set) history) t x
    → goal_of (jobs_at other.jobs t) k ≤ service_of (state_of_moment (start_of other.set) also) t x

-- and no job of it is finished later there
abbrev pub JobsFinishNoLater : JobInputData → JobInputData → List Entry → List Entry → ℕ → Type 0
JobsFinishNoLater one other history also t = (k x : ℕ)
    → IsFinish (state_of_moment (start_of one.set) history) t (goal_of (jobs_at one.jobs t) k)
    one.horizon x
    → (y : ℕ) × (y ≤ x)
    × IsFinish (state_of_moment (start_of other.set) also) t (goal_of (jobs_at other.jobs t) k)
    other.horizon y

-- so it is where less is asked, whatever the less urgent tasks do
abbrev pub ShorterJobsKeepUp : Type 0
ShorterJobsKeepUp = HoldsWhereLessIsAsked JobsKeepUp

abbrev pub ShorterJobsFinishNoLater : Type 0
ShorterJobsFinishNoLater = HoldsWhereLessIsAsked JobsFinishNoLater
