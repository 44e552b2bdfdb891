-- Jobs. A change that makes a task ready begins a stretch, in which the task is ready up to the
-- change that makes it absent, or to the end. A stretch in which the task runs is a job of it: it
-- is released at the first moment of the stretch, and has as many units as there are moments of the
-- stretch at which the task runs.
use Rattle.std.specs.Prelude.{◌≡◌, ℕ, ◌+◌, ◌-◌, ◌<◌, ◌≤◌, Bool, not, ◌&&◌, ◌==◌, nat_lt, List, []}
use Rattle.std.specs.Prelude.{◌∷◌, take, drop, reverse, Option, None, Some, if◌then◌else◌}
use Rattle.std.specs.Bool.{MatchBool}
use Rattle.trace_passages.specs.Passages.{span_of}
use Rattle.trace_losses.specs.Moments.{IsCount}
use Rattle.trace_losses.specs.Passages.{IsCut, RunsBetween}
use Rattle.trace_losses.specs.declared.job.TraceJob.{TraceJob}
use Rattle.trace_passages.specs.declared.passage.Passage.{Passage}
use Rattle.trace_passages.specs.declared.passage.Readiness.{Readiness}

-- ---- moments
-- the task runs at the moment x
pub record RunsAt (passages : List Passage) (t x : ℕ) : Type 0 where
  pub n : ℕ
  pub cut : IsCut passages x n
  pub between : RunsBetween (reverse (take n passages)) (drop n passages) t

-- ---- changes
-- a mention, which changes whether its task is ready, and the moment of its passage
pub record Change : Type 0 where
  pub moment : ℕ
  pub mention : Readiness

-- a mention at this moment, if there is one, before other changes
abbrev pub with_change : ℕ → Option Readiness → List Change → List Change
with_change moment None later = later
with_change moment (Some mention) later = record { moment = moment; mention = mention } ∷ later

-- the changes of the passages, in their order
abbrev pub changes_of : List Passage → List Change
changes_of [] = []
changes_of (passage ∷ rest) = with_change passage.moment passage.first
    (with_change passage.moment passage.second (changes_of rest))

-- the change makes the task absent
abbrev pub is_departure : Change → ℕ → Bool
is_departure change t = not change.mention.is_in && (change.mention.task == t)

-- the moment of the first of these changes that makes the task absent; that of the end, where none
-- does
abbrev pub end_by : ℕ → List Change → ℕ → ℕ
end_by span [] t = span
end_by span (change ∷ later) t =
    if is_departure change t then change.moment else end_by span later t

-- ---- jobs
-- the job is the stretch that the change begins, where these changes follow it
pub record IsStretch (passages : List Passage) (change : Change) (later : List Change)
    (job : TraceJob) : Type 0 where
  pub task : job.task ≡ change.mention.task
  pub release : job.release ≡ change.moment
  pub units : IsCount (RunsAt passages job.task) job.release
      (end_by (span_of passages) later job.task - job.release) job.units

-- a job, where it has units, before other ones
abbrev pub with_job : TraceJob → List TraceJob → List TraceJob
with_job job jobs = if nat_lt 0 job.units then job ∷ jobs else jobs

-- the job of the stretch that a change begins, before other jobs
pub record BeginsJob (passages : List Passage) (change : Change) (later : List Change)
    (AreRest : List TraceJob → Type 0)
    (jobs : List TraceJob) : Type 0 where
  pub job : TraceJob
  pub rest : List TraceJob
  pub is_stretch : IsStretch passages change later job
  pub are_rest : AreRest rest
  pub all : jobs ≡ with_job job rest

-- the jobs of these changes: one for each that makes its task ready, in their order, where the job
-- has units
abbrev pub AreJobsOf : List Passage → List Change → List TraceJob → Type 0
AreJobsOf passages [] jobs = jobs ≡ []
AreJobsOf passages (change ∷ later) jobs =
    MatchBool change.mention.is_in (BeginsJob passages change later (AreJobsOf passages later) jobs)
    (AreJobsOf passages later jobs)

-- the jobs are those of the passages
abbrev pub AreJobs : List Passage → List TraceJob → Type 0
AreJobs passages jobs = AreJobsOf passages (changes_of passages) jobs

-- the job is of one of so many tasks and has units, all of them between its release and the end
pub record IsJobWithin (tasks span : ℕ) (job : TraceJob) : Type 0 where
  pub task : job.task < tasks
  pub some : 0 < job.units
  pub fits : job.release + job.units ≤ span
