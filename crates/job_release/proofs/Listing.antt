-- What the line of a task comes to, and that of a job.
use Rattle.std.proofs.Common.{◌≡◌, ℕ, ◌+◌, ◌<◌, ◌≤◌, ◌⊎◌, List, [], ◌∷◌, ◌++◌, length, refl, subst, inl, inr, arith}
use Rattle.std.proofs.lemmas.List.Sums.{sum_by_push}
use Rattle.affinity_mask.specs.ListText.{IsListText}
use Rattle.task_set.specs.Refusal.{new_task, CanAdd, IsRefusal}
use Rattle.task_set.specs.declared.fault.TaskFault.{TaskFault}
use Rattle.task_set.specs.declared.fault.TaskFault.TheVariants as task
use Rattle.job_release.specs.JobFault.{kind_of_refusal}
use Rattle.job_release.specs.JobInput.{JobInputData, total_jobs, with_jobs}
use Rattle.job_release.specs.JobText.{TaskLine, IsTaskOutcome, Listed, jobs_of_times}
use Rattle.text_fields.specs.Machine.{Leads, Fails}
use Rattle.job_release.specs.Reading.{IsRefusedBy}
use Rattle.job_release.specs.declared.fault.JobKind.TheVariants.{ManyJobs}
use Rattle.job_release.specs.declared.input.Job.{Job}

pub task_refused : (input : JobInputData) (line : TaskLine) (given : List ℕ) (mask : ℕ) (fault : TaskFault) → given ≡ line.name
    → IsListText line.list mask
    → (fault ≡ task.OutOfMemory) ⊎ IsRefusal input.set (new_task given line.priority mask) fault
    → IsRefusedBy (IsTaskOutcome input line) (kind_of_refusal fault)
task_refused input line given mask task.OutOfMemory same listed why = inl refl
task_refused input line given mask fault same listed (inl none) = absurd (cc)
task_refused input line given mask fault same listed (inr why) = inr (inl (mask, listed, inr (fault, rw (← same) why, refl)))

module _ (input : JobInputData) (line : TaskLine) (given : List ℕ) (mask : ℕ) (same : given ≡ line.name)
    (listed : IsListText line.list mask) (allowed : CanAdd input.set (new_task given line.priority mask)) where
  can : CanAdd input.set (new_task line.name line.priority mask)
  can = let P : List ℕ → Type 0 = λ name. CanAdd input.set (new_task name line.priority mask) in subst P same allowed

  one_more : (jobs : List Job) → total_jobs (input.jobs ++ jobs ∷ []) ≡ total_jobs input.jobs + length jobs
  one_more jobs = sum_by_push length input.jobs jobs

  pub too_many : 4000 < total_jobs input.jobs + length (jobs_of_times input.horizon line.times) → IsTaskOutcome input line (Fails ManyJobs)
  too_many many =
      inl (mask, listed, inl (can, inr ((λ few. omega (arith, one_more (jobs_of_times input.horizon line.times), few, many)), refl)))

  pub task_listed : (jobs : List Job) (next : JobInputData) → jobs ≡ jobs_of_times input.horizon line.times
      → total_jobs input.jobs + length jobs ≤ 4000
      → next ≡ with_jobs input (new_task given line.priority mask) jobs → IsTaskOutcome input line (Leads (Listed next))
  task_listed jobs next are few is =
      let within : total_jobs (input.jobs ++ jobs ∷ []) ≤ 4000 = omega (arith, one_more jobs, few) in
      inl (mask, listed, inl (can, inl (rw are at within, rw (is, are, same) refl)))
