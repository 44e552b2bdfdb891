-- Passages have one list of jobs, and each job is of a task of theirs and within their span.
use Rattle.std.proofs.Common.{◌≡◌, ℕ, ◌-◌, Bool, true, false, List, [], ◌∷◌, sym, ap, ◌∙◌, subst}
use Rattle.std.specs.Bool.{MatchBool}
use Rattle.trace_losses.specs.Jobs.{RunsAt, Change, AreJobsOf, BeginsJob, IsStretch, end_by, with_job}
use Rattle.trace_losses.specs.Moments.{IsCount}
use Rattle.trace_passages.specs.Passages.{span_of}
use Rattle.trace_losses.specs.declared.job.TraceJob.{TraceJob}
use Rattle.trace_passages.specs.declared.passage.Passage.{Passage}
use Rattle.trace_losses.proofs.Counts.{one_count}

module _ (passages : List Passage) where
  one_stretch : (change : Change) (later : List Change) (one other : TraceJob) → IsStretch passages change later one
      → IsStretch passages change later other → one ≡ other
  one_stretch change later one other is also =
      let end : ℕ → ℕ = λ (t : ℕ). end_by (span_of passages) later t in
      let task : other.task ≡ one.task = also.task ∙ sym is.task in
      let release : other.release ≡ one.release = also.release ∙ sym is.release in
      let moved : IsCount (RunsAt passages one.task) one.release (end one.task - one.release) other.units =
      subst (λ (r : ℕ). IsCount (RunsAt passages one.task) r (end one.task - r) other.units) release
      (subst (λ (t : ℕ). IsCount (RunsAt passages t) other.release (end t - other.release) other.units) task also.units) in
      let units : one.units ≡ other.units =
      one_count (RunsAt passages one.task) one.release (end one.task - one.release) one.units other.units is.units moved in
      let made : ℕ → ℕ → ℕ → TraceJob = λ (t r u : ℕ). record { task = t; release = r; units = u } in
      ap (λ (t : ℕ). made t one.release one.units) (sym task)
      ∙ ap (λ (r : ℕ). made other.task r one.units) (sym release)
      ∙ ap (made other.task other.release) units

  one_by : (change : Change) (later : List Change) (one other : List TraceJob)
      → ((jobs more : List TraceJob) → AreJobsOf passages later jobs → AreJobsOf passages later more → jobs ≡ more) → (b : Bool)
      → MatchBool b (BeginsJob passages change later (AreJobsOf passages later) one) (AreJobsOf passages later one)
      → MatchBool b (BeginsJob passages change later (AreJobsOf passages later) other) (AreJobsOf passages later other) → one ≡ other
  one_by change later one other same true is also =
      is.all
      ∙ ap (λ (job : TraceJob). with_job job is.rest) (one_stretch change later is.job also.job is.is_stretch also.is_stretch)
      ∙ ap (with_job also.job) (same is.rest also.rest is.are_rest also.are_rest) ∙ sym also.all
  one_by change later one other same false is also = same one other is also

  pub one_jobs : (changes : List Change) (one other : List TraceJob) → AreJobsOf passages changes one → AreJobsOf passages changes other
      → one ≡ other
  one_jobs [] one other is also = is ∙ sym also
  one_jobs (change ∷ later) one other is also =
      one_by change later one other (one_jobs later) change.mention.is_in is also
