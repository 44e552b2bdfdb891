-- What the report says of one job, and of the jobs of a task, under one scheduler. Private: the
-- contracts of this crate's own functions.
use Rattle.std.specs.Prelude.{◌≡◌, ℕ, ◌+◌, ◌-◌, ◌*◌, ◌≤◌, Bool, List, [], ◌∷◌, ◌++◌, length, sum}
use Rattle.std.specs.Prelude.{Option, Some, None, IfSome, if◌then◌else◌}
use Rattle.job_release.specs.Jobs.{job_at}
use Rattle.job_release.specs.JobInput.{JobInputData, jobs_at}
use Rattle.job_release.specs.Moments.{Timeline}
use Rattle.job_release.specs.WeakJobsText.{finish_under, is_late, responses, late_count, worst_of}
use Rattle.job_release.specs.declared.figures.Figures.{Figures}
use Rattle.job_release.specs.declared.outcome.Outcome.{Outcome}

-- what became of job k of the task t
pub record IsOutcomeOfJob (input : JobInputData) (states : Timeline) (t k : ℕ)
    (outcome : Outcome) : Type 0 where
  pub finish : outcome.finish ≡ finish_under input states t k
  pub late : outcome.is_late ≡ is_late input states t k
  pub after : IfSome outcome.finish (λ x. (job_at (jobs_at input.jobs t) k).release ≤ x)
  pub within : IfSome outcome.finish (λ x. x ≤ input.horizon)

-- the figures of these responses
pub record Summarizes (list : List ℕ) (late_jobs : ℕ) (figures : Figures) : Type 0 where
  pub finished : figures.finished ≡ length list
  pub total : figures.total ≡ sum list
  pub worst : figures.worst ≡ worst_of list
  pub late : figures.late ≡ late_jobs

-- the responses, with that of one job more, if it is finished
abbrev pub more_responses : List ℕ → ℕ → Option ℕ → List ℕ
more_responses list release None = list
more_responses list release (Some finish) = list ++ (finish - release) ∷ []

-- how many are late, with one job more
abbrev pub more_late : ℕ → Bool → ℕ
more_late late is_late_too = late + (if is_late_too then 1 else 0)

-- the figures of the first n jobs of the task t
pub record AreFiguresOf (input : JobInputData) (states : Timeline) (t n : ℕ)
    (figures : Figures) : Type 0 where
  pub summary : Summarizes (responses input states t n) (late_count input states t n) figures
  pub fits : figures.total ≤ n * 10000000
