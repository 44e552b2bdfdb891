-- Each job of passages is of a task of theirs and within their span.
use Rattle.std.proofs.Common.{◌≡◌, ℕ, suc, ◌-◌, ◌<◌, ◌≤◌, Bool, true, false, nat_lt, List, [], ◌∷◌, length, Option, None, Some, refl, sym}
use Rattle.std.proofs.Common.{subst, arith}
use Rattle.std.specs.Bool.{MatchBool}
use Rattle.std.specs.Prelude.{All, if◌then◌else◌, slice_get}
use Rattle.std.proofs.lemmas.Bool.{ltb-true}
use Rattle.std.proofs.lemmas.List.Elements.{All-nil, All-cons, All-head, All-tail}
use Rattle.std.proofs.lemmas.Option.{slice_get_within}
use Rattle.trace_losses.specs.Jobs.{RunsAt, Change, AreJobs, AreJobsOf, BeginsJob, IsStretch, IsJobWithin, changes_of, end_by, is_departure}
use Rattle.trace_losses.specs.Jobs.{with_change}
use Rattle.trace_passages.specs.Passages.{ArePassages, IsMentionOf, IsPassageOf, span_of}
use Rattle.trace_losses.specs.declared.job.TraceJob.{TraceJob}
use Rattle.trace_passages.specs.declared.passage.Passage.{Passage}
use Rattle.trace_passages.specs.declared.passage.Readiness.{Readiness}
use Rattle.trace_losses.proofs.Counts.{count_most}
use Rattle.trace_losses.proofs.Passed.{moment_is, moments_in_order}

-- a change of one of so many tasks, at a moment up to the end
record IsChangeOf (tasks span : ℕ) (change : Change) : Type 0 where
  task : change.mention.task < tasks
  moment : change.moment ≤ span

-- a passage of so many tasks, at a moment up to the end
record IsWithin (tasks threads span : ℕ) (passage : Passage) : Type 0 where
  of : IsPassageOf tasks threads passage
  moment : passage.moment ≤ span

module _ (tasks span : ℕ) where
  with_one : (moment : ℕ) (mention : Option Readiness) (later : List Change) → moment ≤ span → IsMentionOf tasks mention
      → All (IsChangeOf tasks span) later → All (IsChangeOf tasks span) (with_change moment mention later)
  with_one moment None later within of are = are
  with_one moment (Some mention) later within of are =
      All-cons (IsChangeOf tasks span) (record { moment = moment; mention = mention }) later
      (record { task = of mention refl; moment = within }) are

  changes_within : (threads : ℕ) (passages : List Passage)
      → ((k : ℕ) (passage : Passage) → slice_get passages k ≡ Some passage → IsWithin tasks threads span passage)
      → All (IsChangeOf tasks span) (changes_of passages)
  changes_within threads [] each = All-nil (IsChangeOf tasks span)
  changes_within threads (passage ∷ rest) each =
      let here = each 0 passage refl in
      with_one passage.moment passage.first (with_change passage.moment passage.second (changes_of rest)) here.moment here.of.first
      (with_one passage.moment passage.second (changes_of rest) here.moment here.of.second
      (changes_within threads rest (λ k next is. each (suc k) next is)))

  end_if : (b : Bool) (moment rest : ℕ) → moment ≤ span → rest ≤ span → (if b then moment else rest) ≤ span
  end_if true moment rest one other = one
  end_if false moment rest one other = other

  end_within : (later : List Change) (t : ℕ) → All (IsChangeOf tasks span) later → end_by span later t ≤ span
  end_within [] t are = omega arith
  end_within (change ∷ later) t are =
      let here = All-head (IsChangeOf tasks span) change later are in
      end_if (is_departure change t) change.moment (end_by span later t) here.moment
      (end_within later t (All-tail (IsChangeOf tasks span) change later are))

module _ (tasks : ℕ) (passages : List Passage) where
  job_within : (change : Change) (later : List Change) (job : TraceJob) → IsStretch passages change later job
      → All (IsChangeOf tasks (span_of passages)) (change ∷ later) → 0 < job.units → IsJobWithin tasks (span_of passages) job
  job_within change later job is are some =
      let here = All-head (IsChangeOf tasks (span_of passages)) change later are in
      let later_are = All-tail (IsChangeOf tasks (span_of passages)) change later are in
      let end : ℕ = end_by (span_of passages) later job.task in
      let last : end ≤ span_of passages = end_within tasks (span_of passages) later job.task later_are in
      let most : job.units ≤ end - job.release = count_most (RunsAt passages job.task) job.release (end - job.release) job.units is.units in
      let task = here.task in
      let same = is.task in
      record { task = omega (arith, task, same); some = some; fits = omega (arith, most, last, some) }

  jobs_with : (job : TraceJob) (rest : List TraceJob) (b : Bool) → nat_lt 0 job.units ≡ b
      → (0 < job.units → IsJobWithin tasks (span_of passages) job) → All (IsJobWithin tasks (span_of passages)) rest
      → All (IsJobWithin tasks (span_of passages)) (if b then job ∷ rest else rest)
  jobs_with job rest true is within are =
      All-cons (IsJobWithin tasks (span_of passages)) job rest (within (ltb-true 0 job.units is)) are
  jobs_with job rest false is within are = are

  jobs_by : (change : Change) (later : List Change) (jobs : List TraceJob) → All (IsChangeOf tasks (span_of passages)) (change ∷ later)
      → ((more : List TraceJob) → AreJobsOf passages later more → All (IsJobWithin tasks (span_of passages)) more) → (b : Bool)
      → MatchBool b (BeginsJob passages change later (AreJobsOf passages later) jobs) (AreJobsOf passages later jobs)
      → All (IsJobWithin tasks (span_of passages)) jobs
  jobs_by change later jobs are within true is =
      subst (All (IsJobWithin tasks (span_of passages))) (sym is.all)
      (jobs_with is.job is.rest (nat_lt 0 is.job.units) refl (job_within change later is.job is.is_stretch are)
      (within is.rest is.are_rest))
  jobs_by change later jobs are within false is = within jobs is

  jobs_of_changes : (changes : List Change) (jobs : List TraceJob) → All (IsChangeOf tasks (span_of passages)) changes
      → AreJobsOf passages changes jobs → All (IsJobWithin tasks (span_of passages)) jobs
  jobs_of_changes [] jobs are is =
      subst (All (IsJobWithin tasks (span_of passages))) (sym is) (All-nil (IsJobWithin tasks (span_of passages)))
  jobs_of_changes (change ∷ later) jobs are is =
      jobs_by change later jobs are
      (λ more found. jobs_of_changes later more (All-tail (IsChangeOf tasks (span_of passages)) change later are) found)
      change.mention.is_in is

  pub jobs_within : (threads : ℕ) (jobs : List TraceJob) → ArePassages tasks threads passages → AreJobs passages jobs
      → All (IsJobWithin tasks (span_of passages)) jobs
  jobs_within threads jobs are is =
      jobs_of_changes (changes_of passages) jobs
      (changes_within tasks (span_of passages) threads passages
      (λ k passage there.
      (let bound = slice_get_within passages k passage there in
      let same = moment_is passages k passage there in
      let order = moments_in_order tasks threads passages are k (length passages - 1) passage (omega (arith, bound))
      (omega (arith, bound)) in
      record { of = are.each k passage there; moment = omega (arith, same, order) }))) is
