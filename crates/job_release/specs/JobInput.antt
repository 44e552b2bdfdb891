-- Inputs of jobs: a task set, a horizon, and the jobs of each task.
use Rattle.std.specs.Prelude.{◌≡◌, ℕ, ◌-◌, ◌<◌, ◌≤◌, List, [], ◌∷◌, ◌++◌, length, map, set, All}
use Rattle.std.specs.Prelude.{AllPairs, get_or, Vec}
use Rattle.std.specs.declared.alloc.Global.{Global}
use Rattle.std.specs.List.{sum_by}
use Rattle.std.specs.Option.{IfSome}
use Rattle.task_set.specs.TaskSet.{SetData, TaskData, IsTaskSet, with_task}
use Rattle.job_release.specs.Jobs.{job_at}
use Rattle.job_release.specs.declared.input.Job.{Job}
use Rattle.job_release.specs.declared.input.JobTask.{JobTask}
use Rattle.job_release.specs.declared.input.JobInput.TheInside.{Inside}

-- what contracts see of an input; the jobs are listed by the number of the task, and the version is
-- that of the text: 1 for periodic tasks, 2 for jobs one by one
pub record JobInputData : Type 0 where
  pub version : ℕ
  pub set : SetData
  pub horizon : ℕ
  pub jobs : List (List Job)

-- the offset, the period and the cost of a periodic task are at most 1,000,000, and the last two at
-- least 1
pub record IsJobTask (task : JobTask) : Type 0 where
  pub offset : task.offset ≤ 1000000
  pub period : (1 ≤ task.period) × (task.period ≤ 1000000)
  pub cost : (1 ≤ task.cost) × (task.cost ≤ 1000000)

-- a job is released below the horizon; its cost, and its deadline, if there is one, are from 1 to
-- 10,000,000
pub record IsJob (horizon : ℕ) (job : Job) : Type 0 where
  pub release : job.release < horizon
  pub cost : (1 ≤ job.cost) × (job.cost ≤ 10000000)
  pub deadline : IfSome job.deadline (λ d. (1 ≤ d) × (d ≤ 10000000))

-- a job is released no later than another
abbrev pub IsReleasedNoLater : Job → Job → Type 0
IsReleasedNoLater one other = one.release ≤ other.release

-- jobs of one task: no release is before that of an earlier job
pub record AreJobs (horizon : ℕ) (jobs : List Job) : Type 0 where
  pub each : All (IsJob horizon) jobs
  pub in_order : AllPairs IsReleasedNoLater jobs

-- the jobs of a task, by its number
abbrev pub jobs_at : List (List Job) → ℕ → List Job
jobs_at jobs t = get_or jobs t []

-- how many jobs all tasks have
abbrev pub total_jobs : List (List Job) → ℕ
total_jobs jobs = sum_by length jobs

-- what holds of each input: each task has its jobs, which are at most 4,000
pub record IsJobInput (input : JobInputData) : Type 0 where
  pub valid : IsTaskSet input.set
  pub version : (1 ≤ input.version) × (input.version ≤ 2)
  pub horizon : (1 ≤ input.horizon) × (input.horizon ≤ 10000000)
  pub one_each : length input.jobs ≡ length input.set.tasks
  pub each_jobs : All (AreJobs input.horizon) input.jobs
  pub few : total_jobs input.jobs ≤ 4000

-- ---- inputs one after another
-- no task yet, on so many processors
abbrev pub without_tasks : ℕ → ℕ → ℕ → JobInputData
without_tasks version m horizon = record {
  version = version;
  set = record { processors = m; tasks = [] };
  horizon = horizon;
  jobs = [];
}

-- one task more, with its jobs
abbrev pub with_jobs : JobInputData → TaskData → List Job → JobInputData
with_jobs input task jobs =
    record input { set = with_task input.set task; jobs = input.jobs ++ jobs ∷ [] }

-- one job more of the task t, the last one
abbrev pub with_job : JobInputData → ℕ → Job → JobInputData
with_job input t job = record input { jobs = set input.jobs t (jobs_at input.jobs t ++ job ∷ []) }

-- the release of the last of these jobs, and 0 where there is none
abbrev pub last_release : List Job → ℕ
last_release jobs = (job_at jobs (length jobs - 1)).release

-- ---- what is stored
-- what these vectors hold
abbrev pub lists_of : List (Vec Job Global) → List (List Job)
lists_of vectors = map (λ (vector : Vec Job Global). vector.items) vectors

-- the stored parts
abbrev pub input_view : Inside → JobInputData
input_view a =
    record { version = a.version; set = a.set; horizon = a.horizon; jobs = lists_of a.jobs.items }

-- the invariant of the fields
abbrev pub IsStored : Inside → Type 0
IsStored a = IsJobInput (input_view a)
