-- The text of an input of jobs. The lines that are not skipped are a header, the number of
-- processors, the horizon, the tasks and the end, in this order; in version 1 the line of a task
-- says its jobs, and in version 2 each job has a line of its own after the tasks. Lines and fields
-- are cut and skipped as those of input texts are, and numbers have any length and leading zeros.
-- What a line comes to is said by what is expected: something else is expected then, or the line
-- has a fault, the first of its kinds in their order. The first line with a fault decides.
use Rattle.std.specs.Prelude.{◌≡◌, ℕ, ◌⊎◌, ◌-◌, ◌<◌, ◌≤◌, true, List, [], ◌∷◌, codes, nat_eq}
use Rattle.std.specs.Prelude.{Option, Some, None, if◌then◌else◌}
use Rattle.affinity_mask.specs.ListText.{IsListText}
use Rattle.affinity_mask.specs.ListFault.{IsListFault}
use Rattle.task_set.specs.Refusal.{new_task, CanAdd, IsRefusal, IsNameOf}
use Rattle.text_fields.specs.Number.{IsNumberWithin}
use Rattle.text_fields.specs.Choice.{IsOnly, IsChoice, IsReading, IsJudging, IsAllowing}
use Rattle.text_fields.specs.Lines.{lines_of}
use Rattle.text_fields.specs.LineRule.{IsLineOutcome}
use Rattle.text_fields.specs.Machine.{Outcome, Leads, Fails}
use Rattle.text_fields.specs.Laws.{IsTextOf, IsRefused}
use Rattle.job_release.specs.JobFault.{job_kind}
use Rattle.job_release.specs.Jobs.{periodic_jobs}
use Rattle.job_release.specs.JobInput.{JobInputData, jobs_at, total_jobs, without_tasks, with_jobs}
use Rattle.job_release.specs.JobInput.{with_job, last_release}
use Rattle.job_release.specs.declared.fault.JobKind.{JobKind}
use Rattle.job_release.specs.declared.fault.JobKind.TheVariants.{BadHeader, BadProcessors}
use Rattle.job_release.specs.declared.fault.JobKind.TheVariants.{BadHorizon, BadTask, BadMask}
use Rattle.job_release.specs.declared.fault.JobKind.TheVariants.{TaskRefused, BadJob, UnknownTask}
use Rattle.job_release.specs.declared.fault.JobKind.TheVariants.{Backward, ManyJobs, AfterEnd}
use Rattle.job_release.specs.declared.fault.JobKind.TheVariants.{NoEnd}
use Rattle.job_release.specs.declared.input.Job.{Job}
use Rattle.job_release.specs.declared.input.JobTask.{JobTask}

-- ---- the lines
-- a word, and a number between two bounds
abbrev pub IsWorded : List ℕ → ℕ → ℕ → ℕ → List (List ℕ) → Type 0
IsWorded word least most n fields =
    (number : List ℕ) × (fields ≡ word ∷ number ∷ []) × IsNumberWithin least most number n

-- the header: `jobs` and the version, 1 or 2
abbrev pub IsHeader : ℕ → List (List ℕ) → Type 0
IsHeader version fields = IsWorded (codes "jobs") 1 2 version fields

-- `processors` and how many there are, from 1 to 64
abbrev pub IsProcessorsLine : ℕ → List (List ℕ) → Type 0
IsProcessorsLine m fields = IsWorded (codes "processors") 1 64 m fields

-- the greatest horizon in a text of this version
abbrev pub max_horizon : ℕ → ℕ
max_horizon version = if nat_eq version 1 then 1000000 else 10000000

-- `horizon` and the moment before which jobs are released, from 1 on
abbrev pub IsHorizonLine : ℕ → ℕ → List (List ℕ) → Type 0
IsHorizonLine version horizon fields =
    IsWorded (codes "horizon") 1 (max_horizon version) horizon fields

-- what a task line says, with its list as it stands, and the times of its jobs where the line has
-- them
pub record TaskLine : Type 0 where
  pub name : List ℕ
  pub priority : ℕ
  pub list : List ℕ
  pub times : Option JobTask

-- the offset, the period and the cost of jobs, from 0, 1 and 1 to 1,000,000
pub record AreTimes (offset period cost : List ℕ) (job : JobTask) : Type 0 where
  pub offset_is : IsNumberWithin 0 1000000 offset job.offset
  pub period_is : IsNumberWithin 1 1000000 period job.period
  pub cost_is : IsNumberWithin 1 1000000 cost job.cost

-- three fields that say the times of jobs
abbrev pub AreTimeFields : List (List ℕ) → JobTask → Type 0
AreTimeFields fields job =
    (offset : List ℕ) × (period : List ℕ) × (cost : List ℕ) × (fields ≡ offset ∷ period ∷ cost ∷ [])
    × AreTimes offset period cost job

-- the last fields of a task line: the times of its jobs in version 1, and none in version 2
abbrev pub AreTimesOf : ℕ → List (List ℕ) → Option JobTask → Type 0
AreTimesOf version fields (Some job) = (version ≡ 1) × AreTimeFields fields job
AreTimesOf version fields None = (version ≡ 2) × (fields ≡ [])

-- `task`, any field for a name, a priority below 2 to the power of 32, any field for a list, and
-- the times of its jobs where the version has them
pub record IsTaskForm (version : ℕ) (fields : List (List ℕ)) (line : TaskLine) : Type 0 where
  pub priority : List ℕ
  pub rest : List (List ℕ)
  pub each_field : fields ≡ codes "task" ∷ line.name ∷ priority ∷ line.list ∷ rest
  pub priority_is : IsNumberWithin 0 4294967295 priority line.priority
  pub times : AreTimesOf version rest line.times

-- what a job line says
pub record JobLine : Type 0 where
  pub name : List ℕ
  pub job : Job

-- the last fields of a job line: a deadline from 1 to 10,000,000, or none
abbrev pub IsDeadline : List (List ℕ) → Option ℕ → Type 0
IsDeadline fields (Some deadline) =
    (number : List ℕ) × (fields ≡ number ∷ []) × IsNumberWithin 1 10000000 number deadline
IsDeadline fields None = fields ≡ []

-- a release below the horizon, a cost from 1 to 10,000,000, and the deadline if there is one
pub record SaysJob (horizon : ℕ) (release cost : List ℕ) (rest : List (List ℕ))
    (job : Job) : Type 0 where
  pub release_is : IsNumberWithin 0 (horizon - 1) release job.release
  pub cost_is : IsNumberWithin 1 10000000 cost job.cost
  pub deadline_is : IsDeadline rest job.deadline

-- `job`, any field for a name, and what the job is
pub record IsJobForm (horizon : ℕ) (fields : List (List ℕ)) (line : JobLine) : Type 0 where
  pub release : List ℕ
  pub cost : List ℕ
  pub rest : List (List ℕ)
  pub each_field : fields ≡ codes "job" ∷ line.name ∷ release ∷ cost ∷ rest
  pub job_is : SaysJob horizon release cost rest line.job

-- the last line, `end` alone
abbrev pub end_line : List (List ℕ)
end_line = codes "end" ∷ []

-- ---- what a line comes to
-- what is expected: the header, the processors, the horizon, tasks, jobs or the end after what was
-- listed so far, or nothing
pub data Progress : Type 0 where
  HeaderExpected : Progress
  ProcessorsExpected : ℕ → Progress
  HorizonExpected : ℕ → ℕ → Progress
  Listed : JobInputData → Progress
  Ended : JobInputData → Progress

-- a line leads on, or has a fault of a kind
abbrev pub LineOutcome : Type 0
LineOutcome = Outcome Progress JobKind

-- the jobs of a task line: those that its times say, or none yet
abbrev pub jobs_of_times : ℕ → Option JobTask → List Job
jobs_of_times horizon (Some task) = periodic_jobs horizon task
jobs_of_times horizon None = []

-- the task can be added: it is listed, where there are not too many jobs
abbrev pub IsCountOutcome : JobInputData → TaskLine → ℕ → LineOutcome → Type 0
IsCountOutcome input line mask outcome =
    let next = with_jobs input (new_task line.name line.priority mask)
    (jobs_of_times input.horizon line.times) in
    IsChoice (total_jobs next.jobs ≤ 4000) (IsOnly (Leads (Listed next))) (IsOnly (Fails ManyJobs))
    outcome

-- the list is a mask: the task can be added, or the task set refuses it
abbrev pub IsAddOutcome : JobInputData → TaskLine → ℕ → LineOutcome → Type 0
IsAddOutcome input line mask outcome =
    let task = new_task line.name line.priority mask in
    IsAllowing (CanAdd input.set task) (IsRefusal input.set task) (IsCountOutcome input line mask)
    (λ fault. IsOnly (Fails (TaskRefused fault))) outcome

-- the line has the form of a task: its list is a mask, or has a fault
abbrev pub IsTaskOutcome : JobInputData → TaskLine → LineOutcome → Type 0
IsTaskOutcome input line outcome =
    IsJudging (IsListText line.list) (IsListFault line.list) (IsAddOutcome input line)
    (λ fault. IsOnly (Fails (BadMask fault))) outcome

-- a task is expected
abbrev pub IsTaskLineOutcome : JobInputData → List (List ℕ) → LineOutcome → Type 0
IsTaskLineOutcome input fields outcome =
    IsReading (IsTaskForm input.version fields) (IsTaskOutcome input) (IsOnly (Fails BadTask))
    outcome

-- the job is not released before the one before it of its task: it is listed, where there are not
-- too many
abbrev pub IsRoomOutcome : JobInputData → ℕ → Job → LineOutcome → Type 0
IsRoomOutcome input t job outcome =
    IsChoice (total_jobs input.jobs < 4000) (IsOnly (Leads (Listed (with_job input t job))))
    (IsOnly (Fails ManyJobs)) outcome

-- there is a task of this name, whose job it is
abbrev pub IsOrderOutcome : JobInputData → ℕ → Job → LineOutcome → Type 0
IsOrderOutcome input t job outcome =
    IsChoice (last_release (jobs_at input.jobs t) ≤ job.release) (IsRoomOutcome input t job)
    (IsOnly (Fails Backward)) outcome

-- the line has the form of a job: there is a task of its name, or none
abbrev pub IsJobOutcome : JobInputData → JobLine → LineOutcome → Type 0
IsJobOutcome input line outcome =
    IsReading (λ t. IsNameOf input.set t line.name) (λ t. IsOrderOutcome input t line.job)
    (IsOnly (Fails UnknownTask)) outcome

-- a job is expected
abbrev pub IsJobLineOutcome : JobInputData → List (List ℕ) → LineOutcome → Type 0
IsJobLineOutcome input fields outcome =
    IsReading (IsJobForm input.horizon fields) (IsJobOutcome input) (IsOnly (Fails BadJob)) outcome

-- the first field is `task`
abbrev pub BeginsTask : List (List ℕ) → Type 0
BeginsTask fields = (rest : List (List ℕ)) × (fields ≡ codes "task" ∷ rest)

-- the line is for a task: in version 1 each is, and in version 2 one whose first field is `task`,
-- where no job came yet
abbrev pub IsForTask : JobInputData → List (List ℕ) → Type 0
IsForTask input fields = (input.version ≡ 1) ⊎ ((total_jobs input.jobs ≡ 0) × BeginsTask fields)

-- the end, a task or a job is expected
abbrev pub IsListedOutcome : JobInputData → List (List ℕ) → LineOutcome → Type 0
IsListedOutcome input fields outcome =
    IsChoice (fields ≡ end_line) (IsOnly (Leads (Ended input)))
    (IsChoice (IsForTask input fields) (IsTaskLineOutcome input fields)
    (IsJobLineOutcome input fields)) outcome

-- a line with a word and a number leads on, or has this fault
abbrev pub IsWordedOutcome : (ℕ → Type 0) → (ℕ → Progress) → JobKind → LineOutcome → Type 0
IsWordedOutcome Is next kind outcome =
    IsReading Is (λ n. IsOnly (Leads (next n))) (IsOnly (Fails kind)) outcome

-- what the fields of a line come to, by what is expected
abbrev pub IsOutcome : Progress → List (List ℕ) → LineOutcome → Type 0
IsOutcome HeaderExpected fields outcome =
    IsWordedOutcome (λ version. IsHeader version fields) ProcessorsExpected BadHeader outcome
IsOutcome (ProcessorsExpected version) fields outcome =
    IsWordedOutcome (λ m. IsProcessorsLine m fields) (HorizonExpected version) BadProcessors outcome
IsOutcome (HorizonExpected version m) fields outcome =
    IsWordedOutcome (λ horizon. IsHorizonLine version horizon fields)
    (λ horizon. Listed (without_tasks version m horizon)) BadHorizon
    outcome
IsOutcome (Listed input) fields outcome = IsListedOutcome input fields outcome
IsOutcome (Ended input) fields outcome = IsOnly (Fails AfterEnd) outcome

-- what the end comes to: it is faultless where nothing is expected
abbrev pub IsEndOutcome : Progress → Outcome JobInputData JobKind → Type 0
IsEndOutcome (Ended input) outcome = outcome ≡ Leads input
IsEndOutcome HeaderExpected outcome = outcome ≡ Fails NoEnd
IsEndOutcome (ProcessorsExpected version) outcome = outcome ≡ Fails NoEnd
IsEndOutcome (HorizonExpected version m) outcome = outcome ≡ Fails NoEnd
IsEndOutcome (Listed input) outcome = outcome ≡ Fails NoEnd

-- ---- what a text comes to, line by line
-- the bytes are the text of this input
abbrev pub IsJobText : List ℕ → JobInputData → Type 0
IsJobText bytes input = IsTextOf lines_of HeaderExpected
    (IsLineOutcome 4096 true job_kind IsOutcome) IsEndOutcome bytes input

-- the bytes are refused with this line and kind
abbrev pub IsJobRefused : List ℕ → ℕ → JobKind → Type 0
IsJobRefused bytes number kind = IsRefused lines_of HeaderExpected
    (IsLineOutcome 4096 true job_kind IsOutcome) IsEndOutcome bytes number kind
