-- Jobs. A task has jobs, numbered from 0 in the order of their releases. Each asks for units of
-- time from its release on. The jobs of a periodic task are released a period apart from the offset
-- on, those of a sporadic one where its text says.
use Rattle.std.specs.Prelude.{ℕ, ◌+◌, ◌*◌, List, length, map, take, get_or, nat_lt, nat_le, Option}
use Rattle.std.specs.Prelude.{Some, None, if◌then◌else◌}
use Rattle.std.specs.List.{sum_by, range_with_len}
use Rattle.affinity_mask.specs.ProcSet.{passing_below}
use Rattle.job_release.specs.declared.input.Job.{Job}
use Rattle.job_release.specs.declared.input.JobTask.{JobTask}

-- what stands for a job where there is none
abbrev pub no_job : Job
no_job = record { release = 0; cost = 0; deadline = None }

-- job k of these
abbrev pub job_at : List Job → ℕ → Job
job_at jobs k = get_or jobs k no_job

-- what a job asks for at the moment x: its cost, from its release on
abbrev pub asked_at : ℕ → Job → ℕ
asked_at x job = if nat_le job.release x then job.cost else 0

-- the demand of a task at the moment x: what those of its jobs ask for that are released at moments
-- up to x
abbrev pub demand : List Job → ℕ → ℕ
demand jobs x = sum_by (asked_at x) jobs

-- the cost of a job
abbrev pub cost_of : Job → ℕ
cost_of job = job.cost

-- the units after which job k is finished: what the jobs up to it ask for
abbrev pub goal_of : List Job → ℕ → ℕ
goal_of jobs k = sum_by cost_of (take (k + 1) jobs)

-- the moment at which a job is due: its deadline after its release, where one is stated, else the
-- release of the next job, if there is one
abbrev pub due_after : List Job → ℕ → Option ℕ → Option ℕ
due_after jobs k (Some deadline) = Some ((job_at jobs k).release + deadline)
due_after jobs k None =
    if nat_lt (k + 1) (length jobs) then Some (job_at jobs (k + 1)).release else None

-- the same of job k
abbrev pub due_of : List Job → ℕ → Option ℕ
due_of jobs k = due_after jobs k (job_at jobs k).deadline

-- ---- periodic tasks
-- the moment at which job k of a periodic task is released
abbrev pub release_moment : JobTask → ℕ → ℕ
release_moment task k = task.offset + k * task.period

-- how many jobs of a periodic task are released before the moment x: the numbers k whose release is
-- below x; as a period is 1 at least, such a k is itself below x
abbrev pub released_before : JobTask → ℕ → ℕ
released_before task x = length (passing_below (λ k. nat_lt (release_moment task k) x) x)

-- how many jobs of a periodic task are released at moments up to x
abbrev pub released_by : JobTask → ℕ → ℕ
released_by task x = released_before task (x + 1)

-- job k of a periodic task, which is due when the next one is released
abbrev pub periodic_job : JobTask → ℕ → Job
periodic_job task k =
    record { release = release_moment task k; cost = task.cost; deadline = Some task.period }

-- the jobs of a periodic task that are released below the horizon
abbrev pub periodic_jobs : ℕ → JobTask → List Job
periodic_jobs horizon task =
    map (periodic_job task) (range_with_len 0 (released_before task horizon))
