-- The contexts of a schedule are compared with those of a checker, one after the other.
use Rattle.strong_apa.specs.Dispatch.{contexts_of, context_of}
use Rattle.std.proofs.Common.{◌≡◌, ℕ, ◌+◌, ◌<◌, List, [], ◌∷◌, ◌++◌, length, take, get_or, Some, sym, ap, ◌∙◌, subst, arith}
use Rattle.std.specs.Prelude.{slice_get}
use Rattle.std.proofs.lemmas.List.{take_more, take_all}
use Rattle.std.proofs.lemmas.List.FromFn.{length-map-range_with_len}
use Rattle.std.proofs.lemmas.Option.{same_Some, slice_get_within, get_or_from_slice_get}
use Rattle.task_set.specs.declared.context.Context.{Context}
use Rattle.strong_apa.specs.State.{start_of}
use Rattle.reach_certificate.specs.Checker.{CheckerData}
use Rattle.schedule_text.specs.Schedule.{ScheduleData, IsSchedule}
use Rattle.commands.specs.Valid.{IsValid, HasBadContext, context_line_number, context_defect}
use Rattle.commands.specs.Checking.{HasFollowed}

-- a checker that accepted all entries has the contexts that the history gives
pub contexts_of_all : (schedule : ScheduleData) (checker : CheckerData) → HasFollowed schedule (length schedule.entries) checker
    → checker.contexts ≡ contexts_of schedule.set schedule.entries
contexts_of_all schedule checker followed =
    followed.contexts ∙ ap (contexts_of schedule.set) (take_all (length schedule.entries) schedule.entries (omega arith))

-- a context is that of the task whose number is its place
pub context_task : (schedule : ScheduleData) (n : ℕ) (context : Context) → IsSchedule schedule
    → slice_get schedule.contexts n ≡ Some context → context.task ≡ n
context_task schedule n context ok there =
    let at_n = get_or_from_slice_get schedule.contexts n context context there in
    ap (λ (c : Context). c.task) (sym at_n) ∙ (ok.in_order n context (slice_get_within schedule.contexts n context there)).task

pub context_fits : (schedule : ScheduleData) (n : ℕ) (context : Context) → IsSchedule schedule
    → slice_get schedule.contexts n ≡ Some context → n < length schedule.set.tasks
context_fits schedule n context ok there =
    let fits = slice_get_within schedule.contexts n context there in subst (λ (k : ℕ). n < k) ok.one_each fits

-- one context more is the same
pub same_more : (xs ys : List Context) (n : ℕ) (x y : Context) → slice_get xs n ≡ Some x → slice_get ys n ≡ Some y → x ≡ y
    → take n xs ≡ take n ys → take (n + 1) xs ≡ take (n + 1) ys
same_more xs ys n x y here there same before =
    take_more xs n x (slice_get_within xs n x here)
    ∙ ap (λ (c : Context). take n xs ++ c ∷ []) (get_or_from_slice_get xs n x x here ∙ same ∙ sym (get_or_from_slice_get ys n y y there))
    ∙ ap (λ (earlier : List Context). earlier ++ get_or ys n y ∷ []) before
    ∙ sym (take_more ys n y (slice_get_within ys n y there))

-- the first context that differs
pub bad_context : (schedule : ScheduleData) (n number defect : ℕ) (checker : CheckerData) (context other : Context)
    → HasFollowed schedule (length schedule.entries) checker
    → slice_get schedule.contexts n ≡ Some context → slice_get checker.contexts n ≡ Some other → (other ≡ context → ⊥)
    → take n schedule.contexts ≡ take n checker.contexts
    → number ≡ context_line_number schedule n → defect ≡ context_defect → HasBadContext schedule number defect
bad_context schedule n number defect checker context other followed here there differ before place numbered =
    let all = contexts_of_all schedule checker followed in
    record {
      t = n;
      first = record {
        there = slice_get_within schedule.contexts n context here;
        passing = rw (take_all (length schedule.entries) schedule.entries (omega arith)) at followed.passing;
        before = before ∙ ap (take n) all;
        differs = λ same. differ (same_Some other context (sym there ∙ ap (λ (xs : List Context). slice_get xs n) all ∙ sym same ∙ here));
      };
      place = place;
      numbered = numbered;
    }

-- all contexts are the same
pub all_same : (schedule : ScheduleData) (checker : CheckerData) (n : ℕ) → IsSchedule schedule
    → HasFollowed schedule (length schedule.entries) checker → n ≡ length schedule.contexts
    → take n schedule.contexts ≡ take n checker.contexts → IsValid schedule
all_same schedule checker n ok followed at_end same =
    let all = contexts_of_all schedule checker followed in
    let count : length checker.contexts ≡ length schedule.set.tasks = ap length all
    ∙ length-map-range_with_len (context_of (start_of schedule.set) schedule.entries) 0 (length schedule.set.tasks) in
    let one_each = ok.one_each in
    record {
      passing = rw (take_all (length schedule.entries) schedule.entries (omega arith)) at followed.passing;
      contexts = sym (take_all n schedule.contexts (omega arith)) ∙ same ∙ take_all n checker.contexts (omega arith) ∙ all;
    }
