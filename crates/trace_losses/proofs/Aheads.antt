-- What is known from a moment on goes back over changes and over moments.
use Rattle.std.proofs.Common.{◌≡◌, ℕ, ◌+◌, ◌-◌, ◌<◌, ◌≤◌, ◌==◌, Bool, true, false, List, [], ◌∷◌, length, get_or, set, replicate, drop}
use Rattle.std.proofs.Common.{Option, None, Some, refl, sym, ap, ◌∙◌, subst, inl, inr, arith, eq-eqb, ne_eqb, length-set}
use Rattle.std.specs.Prelude.{slice_get, not, ◌&&◌, if◌then◌else◌}
use Rattle.std.specs.Bool.{MatchBool}
use Rattle.std.specs.Option.{is_some}
use Rattle.std.proofs.lemmas.Bool.{cases_eq, cases_lt}
use Rattle.std.proofs.lemmas.List.{get_or-set_same, get_or-set_other}
use Rattle.std.proofs.lemmas.Option.{same_Some, slice_get-get_or, slice_get_within}
use Rattle.trace_losses.specs.Ahead.{IsAhead, AreAhead, AreLonger}
use Rattle.trace_losses.specs.Jobs.{RunsAt, Change, AreJobsOf, BeginsJob, end_by, with_job}
use Rattle.trace_passages.specs.Passages.{ArePassages, moment_at, span_of}
use Rattle.trace_losses.specs.Passages.{turns_of}
use Rattle.trace_losses.specs.Walk.{held_at_end}
use Rattle.trace_losses.specs.Runs.{IsArmed}
use Rattle.trace_losses.specs.Tally.{more}
use Rattle.trace_losses.specs.declared.job.TraceJob.{TraceJob}
use Rattle.trace_passages.specs.declared.passage.Passage.{Passage}
use Rattle.trace_passages.specs.declared.passage.Readiness.{Readiness}
use Rattle.trace_losses.proofs.Counts.{count_moved, count_most, count_with, count_without}
use Rattle.trace_losses.proofs.Passed.{cut_at}
use Rattle.trace_losses.proofs.RunsMoment.{runs_there, rests_there}
use Rattle.trace_losses.proofs.Watches.{none_counted}

-- up to the moment itself there is none
none_ahead : (passages : List Passage) (moment t units : ℕ) → moment ≤ span_of passages → units ≡ 0 → IsAhead passages moment t moment units
none_ahead passages moment t units within none = record {
  first = omega arith;
  last = within;
  count = count_moved (RunsAt passages t) moment moment 0 (moment - moment) 0 units refl (omega arith) (sym none) refl;
}

pub ahead_at_end : (passages : List Passage) (tasks : ℕ) (units : List ℕ) → units ≡ replicate tasks 0
    → AreAhead passages [] (span_of passages) units
ahead_at_end passages tasks units zeros t count is =
    none_ahead passages (span_of passages) t count (omega arith) (none_counted units tasks zeros t count is)

-- ---- a change
module _ (passages : List Passage) (later : List Change) (moment : ℕ) (mention : Readiness) where
  abbrev change : Change
  change = record { moment = moment; mention = mention }

  -- the end is where it was, where the change does not make the task absent
  end_stays : (t : ℕ) (departs : Bool) → (not mention.is_in && (mention.task == t)) ≡ departs → departs ≡ false
      → end_by (span_of passages) later t ≡ end_by (span_of passages) (change ∷ later) t
  end_stays t departs is none =
      sym (ap (λ (b : Bool). if b then moment else end_by (span_of passages) later t) (is ∙ none))

  pub ahead_arrives : (units : List ℕ) → mention.is_in ≡ true → AreAhead passages later moment units
      → AreAhead passages (change ∷ later) moment units
  ahead_arrives units arrives ahead t count is =
      subst (λ (end : ℕ). IsAhead passages moment t end count)
      (end_stays t false (ap (λ (b : Bool). not b && (mention.task == t)) arrives) refl) (ahead t count is)

  pub ahead_departs : (units : List ℕ) → mention.is_in ≡ false → moment ≤ span_of passages → AreAhead passages later moment units
      → AreAhead passages (change ∷ later) moment (set units mention.task 0)
  ahead_departs units departs within ahead t count is =
      let long = length-set units mention.task 0 in
      let bound = slice_get_within (set units mention.task 0) t count is in
      let below : t < length units = omega (arith, bound, long) in
      let there : get_or (set units mention.task 0) t 0 ≡ count =
      same_Some _ _ (sym (slice_get-get_or (set units mention.task 0) t 0 bound) ∙ is) in
      elim (cases_eq mention.task t) [
        | inl same ↦ (
            let here : (not mention.is_in && (mention.task == t)) ≡ true =
            ap (λ (b : Bool). not b && (mention.task == t)) departs ∙ eq-eqb mention.task t same in
            let zero_there : get_or (set units mention.task 0) t 0 ≡ 0 =
            ap (λ (n : ℕ). get_or (set units mention.task 0) n 0) (sym same)
            ∙ get_or-set_same units mention.task 0 0 (omega (arith, same, below)) in
            subst (λ (end : ℕ). IsAhead passages moment t end count)
            (sym (ap (λ (b : Bool). if b then moment else end_by (span_of passages) later t) here))
            (none_ahead passages moment t count within (sym there ∙ zero_there)))
        | inr differs ↦ (
            let elsewhere : (not mention.is_in && (mention.task == t)) ≡ false =
            ap (λ (b : Bool). not b && (mention.task == t)) departs ∙ ne_eqb mention.task t differs in
            let was : get_or units t 0 ≡ count =
            sym (get_or-set_other units mention.task t 0 0 (λ e. differs (sym e))) ∙ there in
            subst (λ (end : ℕ). IsAhead passages moment t end count) (end_stays t false elsewhere refl)
            (ahead t count (slice_get-get_or units t 0 below ∙ ap Some was)))
      ]

  -- the task's units are those of the job that the change begins
  pub job_arrives : (units : List ℕ) (count : ℕ) (old new : List TraceJob) → mention.is_in ≡ true
      → AreAhead passages later moment units → slice_get units mention.task ≡ Some count
      → new ≡ with_job (record { task = mention.task; release = moment; units = count }) old
      → AreJobsOf passages later old → AreJobsOf passages (change ∷ later) new
  job_arrives units count old new arrives ahead is made jobs =
      let begins : BeginsJob passages change later (AreJobsOf passages later) new = record {
        job = record { task = mention.task; release = moment; units = count };
        rest = old;
        is_stretch = record { task = refl; release = refl; units = (ahead mention.task count is).count };
        are_rest = jobs;
        all = made;
      } in
      subst
      (λ (b : Bool). MatchBool b (BeginsJob passages change later (AreJobsOf passages later) new) (AreJobsOf passages later new))
      (sym arrives) begins

  pub job_departs : (jobs : List TraceJob) → mention.is_in ≡ false → AreJobsOf passages later jobs
      → AreJobsOf passages (change ∷ later) jobs
  job_departs jobs departs are =
      subst
      (λ (b : Bool). MatchBool b (BeginsJob passages change later (AreJobsOf passages later) jobs) (AreJobsOf passages later jobs))
      (sym departs) are

-- ---- moments
-- each task has the moments of before, and these where it runs
came : (old new : List ℕ) (on : List (Option ℕ)) (units : ℕ) → AreLonger old new on units (length on) → length on ≡ length old
    → (t count : ℕ) → slice_get new t ≡ Some count
    → (before : ℕ) × (slice_get old t ≡ Some before) × (more (is_some (get_or on t None)) before units ≡ count)
came old new on units longer all t count is =
    let within = slice_get_within new t count is in
    let same = longer.same in
    let below : t < length old = omega (arith, within, same) in
    let before : ℕ = get_or old t 0 in
    let was = slice_get-get_or old t 0 below in
    let now = longer.counted t before (omega (arith, below, all)) was in
    (before, was, same_Some _ _ (sym now ∙ is))

module _ (tasks threads : ℕ) (passages : List Passage) (are : ArePassages tasks threads passages) (i : ℕ) (within : i < length passages)
    (later : List Change) (on : List (Option ℕ)) (units : ℕ)
    (armed : IsArmed (held_at_end passages) (turns_of (drop i passages)) on)
    (span : moment_at passages (i - 1) + units ≡ moment_at passages i) where
  -- there is a passage before a moment that passes
  some_before : 0 < units → 0 < i
  some_before some = elim (cases_lt 0 i) [
    | inl first ↦ first
    | inr none ↦ (
        let place : i - 1 ≡ i = omega (arith, none) in
        let same : moment_at passages (i - 1) ≡ moment_at passages i = ap (moment_at passages) place in
        absurd (omega (arith, same, span, some)))
  ]

  one_ahead : (t end before : ℕ) (o : Option ℕ) → slice_get on t ≡ Some o → IsAhead passages (moment_at passages i) t end before
      → (runs : Bool) → is_some o ≡ runs → IsAhead passages (moment_at passages (i - 1)) t end (more runs before units)
  one_ahead t end before o is ahead true e =
      let from = ahead.first in
      let start : ℕ = moment_at passages (i - 1) in
      record {
        first = omega (arith, from, span);
        last = ahead.last;
        count =
            count_moved (RunsAt passages t) start start (end - moment_at passages i + units) (end - start) (before + units) (before + units)
            refl
            (omega (arith, from, span)) refl
            (count_with (RunsAt passages t) units start (end - moment_at passages i) before
            (λ x at_least below.
            runs_there passages i t x on o
            (cut_at tasks threads passages are i x (some_before (omega (arith, at_least, below))) within at_least
            (omega (arith, below, span))) armed is e)
            (count_moved (RunsAt passages t) (moment_at passages i) (start + units) (end - moment_at passages i)
            (end - moment_at passages i) before before
            (sym span) refl refl ahead.count));
      }
  one_ahead t end before o is ahead false e =
      let from = ahead.first in
      let start : ℕ = moment_at passages (i - 1) in
      record {
        first = omega (arith, from, span);
        last = ahead.last;
        count =
            count_moved (RunsAt passages t) start start (end - moment_at passages i + units) (end - start) before (before + 0) refl
            (omega (arith, from, span)) (omega arith)
            (count_without (RunsAt passages t) units start (end - moment_at passages i) before
            (λ x at_least below.
            rests_there passages i t x on o
            (cut_at tasks threads passages are i x (some_before (omega (arith, at_least, below))) within at_least
            (omega (arith, below, span))) armed is e)
            (count_moved (RunsAt passages t) (moment_at passages i) (start + units) (end - moment_at passages i)
            (end - moment_at passages i) before before
            (sym span) refl refl ahead.count));
      }

  pub ahead_passed : (old new : List ℕ) → length on ≡ length old → AreLonger old new on units (length on)
      → AreAhead passages later (moment_at passages i) old → AreAhead passages later (moment_at passages (i - 1)) new
  ahead_passed old new all longer ahead t count is =
      let found = came old new on units longer all t count is in
      let bound = slice_get_within old t found.0 found.1 in
      let o : Option ℕ = get_or on t None in
      subst (IsAhead passages (moment_at passages (i - 1)) t (end_by (span_of passages) later t)) found.2
      (one_ahead t (end_by (span_of passages) later t) found.0 o (slice_get-get_or on t None (omega (arith, bound, all)))
      (ahead t found.0 found.1) (is_some o) refl)

-- no task has more moments than there are
pub room_ahead : (passages : List Passage) (later : List Change) (moment : ℕ) (units : List ℕ) → AreAhead passages later moment units
    → (t count : ℕ) → slice_get units t ≡ Some count → moment + count ≤ span_of passages
room_ahead passages later moment units ahead t count is =
    let at = ahead t count is in
    let first = at.first in
    let last = at.last in
    let most = count_most (RunsAt passages t) moment (end_by (span_of passages) later t - moment) count at.count in
    omega (arith, first, last, most)
