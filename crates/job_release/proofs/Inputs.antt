-- Inputs with one task more, or one job more, are inputs.
use Rattle.std.proofs.Common.{◌≡◌, ℕ, zero, suc, ◌+◌, ◌-◌, ◌<◌, ◌≤◌, List, [], ◌∷◌, ◌++◌, length, set, get_or, AllPairs, refl, ap, ◌∙◌, inl}
use Rattle.std.proofs.Common.{inr, arith, length-append, length-set, Option, Some, None}
use Rattle.std.specs.Option.{IfSome}
use Rattle.std.proofs.lemmas.Bool.{cases_lt}
use Rattle.std.proofs.lemmas.List.{get_or_append_left, get_or_at}
use Rattle.std.proofs.lemmas.List.Elements.{All-nil, All-push, All-set, All-get_or}
use Rattle.std.proofs.lemmas.List.Sums.{sum_by-set}
use Rattle.task_set.specs.TaskSet.{TaskData}
use Rattle.task_set.specs.Refusal.{CanAdd}
use Rattle.task_set.proofs.Added.{IsTaskSet-push}
use Rattle.job_release.specs.Jobs.{no_job, released_before}
use Rattle.job_release.specs.JobInput.{JobInputData, IsJobInput, IsJobTask, IsJob, IsReleasedNoLater, AreJobs, jobs_at, total_jobs}
use Rattle.job_release.specs.JobInput.{last_release, with_jobs, with_job}
use Rattle.job_release.specs.JobText.{jobs_of_times}
use Rattle.job_release.specs.declared.input.Job.{Job}
use Rattle.job_release.specs.declared.input.JobTask.{JobTask}
use Rattle.job_release.proofs.Periodic.{periodic_valid, length-periodic_jobs}

pub jobs_of_times_valid : (horizon : ℕ) (times : Option JobTask) → horizon ≤ 10000000 → IfSome times IsJobTask
    → AreJobs horizon (jobs_of_times horizon times)
jobs_of_times_valid horizon None fits are = record { each = All-nil (IsJob horizon); in_order = λ i j d less below. absurd (omega arith) }
jobs_of_times_valid horizon (Some task) fits are = periodic_valid horizon task are

pub length-jobs_of_times : (horizon : ℕ) (times : Option JobTask) (task : JobTask) → times ≡ Some task
    → length (jobs_of_times horizon times) ≡ released_before task horizon
length-jobs_of_times horizon times task is =
    ap (λ (given : Option JobTask). length (jobs_of_times horizon given)) is ∙ length-periodic_jobs horizon task

pub valid_with_jobs : (input : JobInputData) (task : TaskData) (jobs : List Job) → IsJobInput input → CanAdd input.set task
    → AreJobs input.horizon jobs
    → total_jobs (input.jobs ++ jobs ∷ []) ≤ 4000 → IsJobInput (with_jobs input task jobs)
valid_with_jobs input task jobs valid can are few = record {
  valid = IsTaskSet-push input.set task valid.valid can;
  version = valid.version;
  horizon = valid.horizon;
  one_each = (let each = valid.one_each in omega (arith, length-append input.jobs (jobs ∷ []), length-append input.set.tasks (task ∷ [])));
  each_jobs = All-push (AreJobs input.horizon) input.jobs jobs valid.each_jobs are;
  few = few;
}

-- ---- one job more
-- a job that is released no earlier than the last of these is released no earlier than each
after_last : (jobs : List Job) (release k : ℕ) (d : Job) → AllPairs IsReleasedNoLater jobs → last_release jobs ≤ release → k < length jobs
    → (get_or jobs k d).release ≤ release
after_last jobs release k d in_order order below = elim (cases_lt k (length jobs - 1)) [
  | inl before ↦ (
      let last : (get_or jobs k no_job).release ≤ (get_or jobs (length jobs - 1) no_job).release = in_order k (length jobs - 1)
      no_job before (omega arith) in
      let same : get_or jobs k d ≡ get_or jobs k no_job = same_default jobs k d no_job below in
      rw same (let within : (get_or jobs k no_job).release ≤ release = omega (arith, last, order) in within))
  | inr end ↦ (
      let here : k ≡ length jobs - 1 = omega arith in
      let same : get_or jobs k d ≡ get_or jobs (length jobs - 1) no_job = same_default jobs k d no_job below
      ∙ ap (λ (i : ℕ). get_or jobs i no_job) here in
      rw same order)
]
  where
    same_default : (xs : List Job) (i : ℕ) (d e : Job) → i < length xs → get_or xs i d ≡ get_or xs i e
    same_default [] i d e below = absurd (omega arith)
    same_default (x ∷ xs) zero d e below = refl
    same_default (x ∷ xs) (suc i) d e below = same_default xs i d e (omega arith)

pub are_jobs_push : (horizon : ℕ) (jobs : List Job) (job : Job) → AreJobs horizon jobs → IsJob horizon job → last_release jobs ≤ job.release
    → AreJobs horizon (jobs ++ job ∷ [])
are_jobs_push horizon jobs job are is order = record {
  each = All-push (IsJob horizon) jobs job are.each is;
  in_order = λ i j d less below.
      let count = length-append jobs (job ∷ []) in
      let first : get_or (jobs ++ job ∷ []) i d ≡ get_or jobs i d = get_or_append_left jobs (job ∷ []) d i (omega (arith, count)) in
      elim (cases_lt j (length jobs)) [
        | inl before ↦ (
            let second : get_or (jobs ++ job ∷ []) j d ≡ get_or jobs j d = get_or_append_left jobs (job ∷ []) d j before in
            rw (first, second) (are.in_order i j d less before))
        | inr end ↦ (
            let second : get_or (jobs ++ job ∷ []) j d ≡ job = get_or_at jobs job [] d j (omega (arith, count)) in
            rw (first, second) (after_last jobs job.release i d are.in_order order (omega (arith, count))))
      ];
}

pub total_with_job : (lists : List (List Job)) (t : ℕ) (job : Job) → t < length lists
    → total_jobs (set lists t (jobs_at lists t ++ job ∷ [])) ≡ total_jobs lists + 1
total_with_job lists t job within =
    let longer = length-append (jobs_at lists t) (job ∷ []) in
    omega (arith, longer, sum_by-set length lists t (jobs_at lists t ++ job ∷ []) [] within)

pub valid_with_job : (input : JobInputData) (t : ℕ) (job : Job) → IsJobInput input → t < length input.set.tasks → IsJob input.horizon job
    → last_release (jobs_at input.jobs t) ≤ job.release → total_jobs input.jobs < 4000 → IsJobInput (with_job input t job)
valid_with_job input t job valid within is order room =
    let here : t < length input.jobs = (let each = valid.one_each in omega arith) in
    let jobs = jobs_at input.jobs t in
    record {
      valid = valid.valid;
      version = valid.version;
      horizon = valid.horizon;
      one_each = length-set input.jobs t (jobs ++ job ∷ []) ∙ valid.one_each;
      each_jobs = All-set (AreJobs input.horizon) input.jobs t (jobs ++ job ∷ [])
          (are_jobs_push input.horizon jobs job (All-get_or (AreJobs input.horizon) input.jobs t [] here valid.each_jobs) is order)
          valid.each_jobs;
      few = omega (arith, total_with_job input.jobs t job here, room);
    }
