-- The answer to a trace whose jobs are asked for: it is the one that the bytes have, since a text is of one trace, and a trace has one
-- list of jobs.
use Rattle.std.proofs.Common.{◌≡◌, ℕ, ◌⊎◌, ◌+◌, ◌<◌, ◌≤◌, List, length, map, Ok, Err, refl, sym, ap, ◌∙◌, subst, inl, inr, arith}
use Rattle.std.specs.Prelude.{Vec}
use Rattle.std.specs.declared.alloc.Global.{Global}
use Rattle.kernel_trace.specs.Passage.{TaskTraceData, IsTaskTraceText, IsTaskTraceRefused}
use Rattle.kernel_trace.specs.Passages.{IsTaskTrace}
use Rattle.kernel_trace.specs.declared.fault.TraceKind.{TraceKind}
use Rattle.text_fields.specs.Lines.{lines_of}
use Rattle.trace_losses.specs.Jobs.{changes_of}
use Rattle.trace_losses.specs.declared.job.TraceJob.{TraceJob}
use Rattle.trace_losses.proofs.OneJobs.{one_jobs}
use Rattle.commands.specs.Answers.{Answers}
use Rattle.commands.specs.Lost.{AcceptsTaskTrace, RefusesTaskTrace}
use Rattle.commands.specs.ImportJobs.{moments_of, AreJobsIn, IsHorizon, listed, job_text, IsImportedJobsOf, AcceptsJobTrace, IsRefusedList}
use Rattle.commands.specs.ImportJobs.{RefusesJobTrace}
use Rattle.commands.specs.declared.status.Status.{Status}
use Rattle.commands.specs.declared.status.Status.TheVariants.{Input, OutOfMemory}

-- ---- bytes that are no trace
module _ (bytes : List ℕ) (status : Status)
    (trace : Answers (IsImportedJobsOf bytes) (AcceptsTaskTrace bytes) (RefusesTaskTrace bytes) (Err status)) where
  refused_trace : RefusesTaskTrace bytes status ⊎ (status ≡ OutOfMemory) → RefusesJobTrace bytes status ⊎ (status ≡ OutOfMemory)
  refused_trace (inl why) = inl record { number = why.number; kind = why.kind; answer = why.answer; cause = inl why.cause }
  refused_trace (inr memory) = inr memory

  expected_trace : (expected : Status) → RefusesJobTrace bytes expected → (status ≡ expected) ⊎ (status ≡ OutOfMemory)
  expected_trace expected why = elim why.cause [
    | inl cause ↦ trace.refuses expected (record { number = why.number; kind = why.kind; answer = why.answer; cause = cause })
    | inr list ↦ inr (trace.accepts (list.trace, list.is_text))
  ]

  pub answers_trace : Answers (IsImportedJobsOf bytes) (AcceptsJobTrace bytes) (RefusesJobTrace bytes) (Err status)
  answers_trace = record {
    makes = tt;
    refused = refused_trace trace.refused;
    accepts = λ accepted. trace.accepts (accepted.trace, accepted.is_text);
    refuses = λ expected why. expected_trace expected why;
  }

-- ---- spans and numbers of jobs
fits_or_not : (span count kind : ℕ) → IsHorizon span → count ≤ 4000 → IsRefusedList span count kind → ⊥
fits_or_not span count kind fits few (inl (not_so, is)) = let least = fits.0 in let most = fits.1 in elim not_so [
  | inl none ↦ omega (arith, none, least)
  | inr more ↦ omega (arith, more, most)
]
fits_or_not span count kind fits few (inr (horizon, many, is)) = omega (arith, many, few)

no_horizon : (span count kind : ℕ) → IsHorizon span → (span ≡ 0) ⊎ (10000000 < span) → ⊥
no_horizon span count kind fits (inl none) = let least = fits.0 in omega (arith, none, least)
no_horizon span count kind fits (inr more) = let most = fits.1 in omega (arith, more, most)

one_kind : (span count kind other : ℕ) → IsRefusedList span count kind → IsRefusedList span count other → kind ≡ other
one_kind span count kind other (inl (not_so, is)) (inl (also, by)) = is ∙ sym by
one_kind span count kind other (inl (not_so, is)) (inr (fits, many, by)) = absurd (no_horizon span count kind fits not_so)
one_kind span count kind other (inr (fits, many, is)) (inl (not_so, by)) = absurd (no_horizon span count kind fits not_so)
one_kind span count kind other (inr (fits, many, is)) (inr (horizon, more, by)) = is ∙ sym by

-- ---- bytes of a trace
module _ (bytes : List ℕ) (trace : TaskTraceData) (is_text : IsTaskTraceText bytes trace)
    (only : (other : TaskTraceData) → IsTaskTraceText bytes other → trace ≡ other)
    (unrefused : (line : ℕ) (cause : TraceKind) → IsTaskTraceRefused bytes line cause → ⊥)
    (jobs : List TraceJob) (are : AreJobsIn trace jobs) where
  -- what holds of the jobs of a trace of these bytes holds of these
  held : (P : ℕ → ℕ → Type 0) (other : TaskTraceData) (others : List TraceJob) → IsTaskTraceText bytes other → AreJobsIn other others
      → P (moments_of other) (length others) → P (moments_of trace) (length jobs)
  held P other others text also holds =
      let same : other ≡ trace = sym (only other text) in
      let here : AreJobsIn trace others = subst (λ (t : TaskTraceData). AreJobsIn t others) same also in
      let equal : others ≡ jobs = one_jobs trace.passages (changes_of trace.passages) others jobs here are in
      subst (λ (list : List TraceJob). P (moments_of trace) (length list)) equal
      (subst (λ (t : TaskTraceData). P (moments_of t) (length others)) same holds)

  module _ (fits : IsHorizon (moments_of trace)) (few : length jobs ≤ 4000) where
    accepted_unrefused : (expected : Status) → RefusesJobTrace bytes expected → ⊥
    accepted_unrefused expected why = elim why.cause [
      | inl cause ↦ unrefused why.number cause.cause cause.refused
      | inr list ↦
          fits_or_not (moments_of trace) (length jobs) why.kind fits few
          (held (λ (span count : ℕ). IsRefusedList span count why.kind) list.trace list.cause.jobs list.is_text list.cause.are
          list.cause.cause)
    ]

    pub answers_jobs : (put : Vec ℕ Global) → IsTaskTrace bytes trace → put.items ≡ job_text trace (map listed jobs)
        → Answers (IsImportedJobsOf bytes) (AcceptsJobTrace bytes) (RefusesJobTrace bytes) (Ok put)
    answers_jobs put is_trace written = record {
      makes = record {
        trace = trace;
        is_text = is_text;
        is_trace = is_trace;
        is_list = record { jobs = jobs; has = record { horizon = fits; are = are; few = few }; text = written };
      };
      refused = tt;
      accepts = λ accepted. tt;
      refuses = λ expected why. accepted_unrefused expected why;
    }

  module _ (line kind : ℕ) (after_last : line ≡ length (lines_of bytes) + 1)
      (cause : IsRefusedList (moments_of trace) (length jobs) kind) where
    not_accepted : AcceptsJobTrace bytes → ⊥
    not_accepted accepted =
        let has = accepted.has in
        let P : ℕ → ℕ → Type 0 = λ (span count : ℕ). IsHorizon span × (count ≤ 4000) in
        let both = held P accepted.trace accepted.jobs accepted.is_text has.are (has.horizon, has.few) in
        fits_or_not (moments_of trace) (length jobs) kind both.0 both.1 cause

    one_answer : (expected : Status) → RefusesJobTrace bytes expected → Input line kind ≡ expected
    one_answer expected why = elim why.cause [
      | inl found ↦ absurd (unrefused why.number found.cause found.refused)
      | inr list ↦ (
          let other =
          held (λ (span count : ℕ). IsRefusedList span count why.kind) list.trace list.cause.jobs list.is_text list.cause.are
          list.cause.cause in
          let kinds : kind ≡ why.kind = one_kind (moments_of trace) (length jobs) kind why.kind cause other in
          let lines : line ≡ why.number = after_last ∙ sym list.after_last in
          ap (λ (n : ℕ). Input n kind) lines ∙ ap (Input why.number) kinds ∙ sym why.answer)
    ]

    pub answers_no_list : Answers (IsImportedJobsOf bytes) (AcceptsJobTrace bytes) (RefusesJobTrace bytes) (Err (Input line kind))
    answers_no_list = record {
      makes = tt;
      refused =
          inl record {
            number = line;
            kind = kind;
            answer = refl;
            cause = inr record {
              trace = trace;
              is_text = is_text;
              cause = record { jobs = jobs; are = are; cause = cause };
              after_last = after_last;
            };
          };
      accepts = λ accepted. absurd (not_accepted accepted);
      refuses = λ expected why. inl (one_answer expected why);
    }
