-- What an input stores: a vector of jobs for each task.
use Rattle.std.proofs.Common.{◌≡◌, ℕ, ◌+◌, ◌<◌, ◌≤◌, List, [], ◌∷◌, ◌++◌, length, get_or, set, take, Vec, sym, ap, ◌∙◌, arith}
use Rattle.std.specs.declared.alloc.Global.{Global}
use Rattle.std.proofs.lemmas.List.{length-map, get_or-map, map-append, map-set, set-get_or}
use Rattle.std.proofs.lemmas.List.Sums.{sum_by_push, sum_by_more, sum_by_more_le}
use Rattle.task_set.specs.TaskSet.{SetData, TaskData, with_task}
use Rattle.task_set.specs.Refusal.{CanAdd}
use Rattle.job_release.specs.JobInput.{JobInputData, IsJobInput, IsJob, AreJobs, lists_of, jobs_at, total_jobs, last_release, with_job}
use Rattle.job_release.specs.declared.input.Job.{Job}
use Rattle.job_release.proofs.Inputs.{valid_with_jobs, valid_with_job}

abbrev pub Row : Type 0
Row = Vec Job Global

-- ---- the rows
pub row_stored : (rows : List Row) (t : ℕ) (row : Row) → t < length rows → row ≡ get_or rows t row → jobs_at (lists_of rows) t ≡ row.items
row_stored rows t row within is =
    get_or-map (λ (vector : Row). vector.items) rows t row [] within ∙ ap (λ (vector : Row). vector.items) (sym is)

pub row_pushed : (rows : List Row) (t : ℕ) (old new : Row) (job : Job) → t < length rows → old ≡ get_or rows t old
    → new.items ≡ old.items ++ job ∷ []
    → lists_of (set rows t new) ≡ set (lists_of rows) t (jobs_at (lists_of rows) t ++ job ∷ [])
row_pushed rows t old new job within is pushed =
    map-set (λ (vector : Row). vector.items) rows t new
    ∙ ap (λ (jobs : List Job). set (lists_of rows) t jobs)
    (pushed ∙ ap (λ (jobs : List Job). jobs ++ job ∷ []) (sym (row_stored rows t old within is)))

pub row_kept : (rows : List Row) (t : ℕ) (old new : Row) → t < length rows → old ≡ get_or rows t old → new.items ≡ old.items
    → lists_of (set rows t new) ≡ lists_of rows
row_kept rows t old new within is kept =
    map-set (λ (vector : Row). vector.items) rows t new
    ∙ ap (λ (jobs : List Job). set (lists_of rows) t jobs) (kept ∙ sym (row_stored rows t old within is)) ∙ set-get_or (lists_of rows) t []

pub rows_pushed : (rows pushed : List Row) (row : Row) → pushed ≡ rows ++ row ∷ [] → lists_of pushed ≡ lists_of rows ++ row.items ∷ []
rows_pushed rows pushed row is = ap lists_of is ∙ map-append (λ (vector : Row). vector.items) rows (row ∷ [])

-- ---- how many jobs they have
pub count_more : (rows : List Row) (i : ℕ) (row : Row) → i < length rows → row ≡ get_or rows i row
    → total_jobs (take (i + 1) (lists_of rows)) ≡ total_jobs (take i (lists_of rows)) + length row.items
count_more rows i row within is =
    let count = length-map rows (λ (vector : Row). vector.items) in
    let here = ap length (row_stored rows i row within is) in
    omega (arith, sum_by_more length (lists_of rows) i [] (omega (arith, count, within)), here)

pub count_within : (rows : List Row) (i : ℕ) (row : Row) → i < length rows → row ≡ get_or rows i row
    → total_jobs (take i (lists_of rows)) + length row.items ≤ total_jobs (lists_of rows)
count_within rows i row within is =
    let count = length-map rows (λ (vector : Row). vector.items) in
    let here = ap length (row_stored rows i row within is) in
    omega (arith, sum_by_more_le length (lists_of rows) i [] (omega (arith, count, within)), here)

-- ---- inputs
pub stored_with_jobs : (input : JobInputData) (task : TaskData) (jobs : List Job) (set : SetData) (lists : List (List Job))
    → IsJobInput input → CanAdd input.set task → AreJobs input.horizon jobs
    → total_jobs input.jobs + length jobs ≤ 4000 → set ≡ with_task input.set task → lists ≡ input.jobs ++ jobs ∷ []
    → IsJobInput (record input { set = set; jobs = lists })
stored_with_jobs input task jobs set lists valid can are few set_is lists_are =
    rw (set_is, lists_are) (valid_with_jobs input task jobs valid can are (omega (arith, sum_by_push length input.jobs jobs, few)))

pub stored_with_job : (input : JobInputData) (t : ℕ) (job : Job) (lists : List (List Job)) → IsJobInput input → t < length input.set.tasks
    → IsJob input.horizon job
    → last_release (jobs_at input.jobs t) ≤ job.release → total_jobs input.jobs < 4000 → lists ≡ (with_job input t job).jobs
    → IsJobInput (record input { jobs = lists })
stored_with_job input t job lists valid within is order room lists_are =
    rw lists_are (valid_with_job input t job valid within is order room)
