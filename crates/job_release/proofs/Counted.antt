-- The figures of a task's jobs, as one job more is counted.
use Rattle.std.proofs.Common.{◌≡◌, ℕ, suc, ◌+◌, ◌-◌, ◌/◌, ◌<◌, ◌≤◌, List, [], ◌∷◌, ◌++◌, length, codes, sum, map, Option, Some, None}
use Rattle.std.proofs.Common.{IfSome, refl, sym, ap, ◌∙◌, subst, inl, inr, arith, append-nil}
use Rattle.std.specs.List.{filter_map, range_with_len, cons_option}
use Rattle.std.proofs.lemmas.Bool.{cases_Bool}
use Rattle.std.proofs.lemmas.List.Elements.{filter_map-append}
use Rattle.std.proofs.lemmas.List.FromFn.{map-range_with_len_more, length-range_with_len}
use Rattle.std.proofs.lemmas.List.Sums.{sum_by_push, get_or-le-sum_by}
use Rattle.affinity_mask.specs.Number.{canonical_number}
use Rattle.strong_apa.proofs.Counts.{count_below-more, count_below-same, count_below-zero, count_below-bound}
use Rattle.job_release.specs.Jobs.{job_at}
use Rattle.job_release.specs.JobInput.{JobInputData, IsJobInput, jobs_at}
use Rattle.job_release.specs.Moments.{Timeline}
use Rattle.job_release.specs.declared.input.Job.{Job}
use Rattle.job_release.specs.Figures.{IsOutcomeOfJob, Summarizes, AreFiguresOf, more_responses, more_late}
use Rattle.job_release.specs.WeakJobsText.{finish_under, response_under, responses, late_count, is_late, worst_of, responses_text}
use Rattle.job_release.specs.declared.figures.Figures.{Figures}
use Rattle.job_release.specs.declared.outcome.Outcome.{Outcome}

-- ---- one job more
range_more : (n : ℕ) → range_with_len 0 (n + 1) ≡ range_with_len 0 n ++ n ∷ []
range_more n =
    let same : (xs : List ℕ) → map (λ x. x) xs ≡ xs = map_self in
    sym (same (range_with_len 0 (n + 1))) ∙ map-range_with_len_more (λ (x : ℕ). x) 0 n n (omega arith)
    ∙ ap (λ (xs : List ℕ). xs ++ n ∷ []) (same (range_with_len 0 n))
  where
    map_self : (xs : List ℕ) → map (λ x. x) xs ≡ xs
    map_self [] = refl
    map_self (x ∷ xs) = ap (λ (rest : List ℕ). x ∷ rest) (map_self xs)

responses_more : (input : JobInputData) (states : Timeline) (t n : ℕ) → responses input states t (n + 1)
    ≡ more_responses (responses input states t n) (job_at (jobs_at input.jobs t) n).release (finish_under input states t n)
responses_more input states t n =
    ap (filter_map (response_under input states t)) (range_more n) ∙ filter_map-append (response_under input states t) (range_with_len 0 n)
    (n ∷ []) ∙ last (finish_under input states t n) refl
  where
    last : (finish : Option ℕ) → finish ≡ finish_under input states t n
        → responses input states t n ++ filter_map (response_under input states t) (n ∷ [])
        ≡ more_responses (responses input states t n) (job_at (jobs_at input.jobs t) n).release finish
    last None is = rw (sym is) (append-nil (responses input states t n))
    last (Some x) is = rw (sym is) refl

late_more : (input : JobInputData) (states : Timeline) (t n : ℕ) → late_count input states t (n + 1)
    ≡ more_late (late_count input states t n) (is_late input states t n)
late_more input states t n =
    let next : n + 1 ≡ suc n = omega arith in
    ap (late_count input states t) next ∙ elim (cases_Bool (is_late input states t n)) [
      | inl late ↦ rw late (let more = count_below-more (is_late input states t) n late in omega (arith, more))
      | inr in_time ↦ rw in_time (let same = count_below-same (is_late input states t) n in_time in omega (arith, same))
    ]

one_more : (o : Option ℕ) (list : List ℕ) (n : ℕ) → length list ≤ n → length (cons_option o list) ≤ suc n
one_more None list n few = omega arith
one_more (Some y) list n few = omega arith

responses_few : (h : ℕ → Option ℕ) (xs : List ℕ) → length (filter_map h xs) ≤ length xs
responses_few h [] = omega arith
responses_few h (x ∷ xs) = one_more (h x) (filter_map h xs) (length xs) (responses_few h xs)

sum_more : (list : List ℕ) (release horizon : ℕ) (finish : Option ℕ) → IfSome finish (λ x. x ≤ horizon)
    → sum (more_responses list release finish) ≤ sum list + horizon
sum_more list release horizon None within = omega arith
sum_more list release horizon (Some x) within = let push = sum_by_push (λ x. x) list (x - release) in omega arith

pub figures_more : (input : JobInputData) (states : Timeline) (t n release : ℕ) (outcome : Outcome) (old new : Figures)
    → release ≡ (job_at (jobs_at input.jobs t) n).release → input.horizon ≤ 10000000
    → IsOutcomeOfJob input states t n outcome → AreFiguresOf input states t n old
    → ((list : List ℕ) (late : ℕ) → Summarizes list late old
    → Summarizes (more_responses list release outcome.finish) (more_late late outcome.is_late) new)
    → AreFiguresOf input states t (n + 1) new
figures_more input states t n release outcome old new release_is small is old_are more =
    let list = responses input states t n in
    let next : Summarizes (more_responses list release outcome.finish) (more_late (late_count input states t n) outcome.is_late)
    new = more list (late_count input states t n) old_are.summary in
    let list_is : more_responses list release outcome.finish ≡ responses input states t (n + 1) =
    ap (λ (r : ℕ). more_responses list r outcome.finish) release_is
    ∙ ap (λ (f : Option ℕ). more_responses list (job_at (jobs_at input.jobs t) n).release f) is.finish
    ∙ sym (responses_more input states t n) in
    let late_is : more_late (late_count input states t n) outcome.is_late ≡ late_count input states t (n + 1) =
    ap (more_late (late_count input states t n)) is.late ∙ sym (late_more input states t n) in
    let grows = sum_more list release input.horizon outcome.finish is.within in
    let fits = old_are.fits in
    let total_was = old_are.summary.total in
    let total_is = next.total in
    record {
      summary = subst (λ (l : List ℕ). Summarizes l (late_count input states t (n + 1)) new) list_is
          (subst (λ (k : ℕ). Summarizes (more_responses list release outcome.finish) k new) late_is next);
      fits = omega arith;
    }

-- of no job yet
pub figures_none : (input : JobInputData) (states : Timeline) (t : ℕ)
    → AreFiguresOf input states t 0 (record { finished = 0; late = 0; total = 0; worst = 0 })
figures_none input states t =
    let late = count_below-zero (is_late input states t) in
    record { summary = record { finished = refl; total = refl; worst = refl; late = sym late }; fits = omega arith }

-- how many there are at most
pub few_finished : (input : JobInputData) (states : Timeline) (t n : ℕ) (figures : Figures) → AreFiguresOf input states t n figures
    → figures.finished ≤ n
few_finished input states t n figures are =
    let few = responses_few (response_under input states t) (range_with_len 0 n) in
    let count = length-range_with_len 0 n in
    let is = are.summary.finished in
    omega arith

pub few_late : (input : JobInputData) (states : Timeline) (t n : ℕ) (figures : Figures) → AreFiguresOf input states t n figures
    → figures.late ≤ n
few_late input states t n figures are =
    let few = count_below-bound (is_late input states t) n in
    let is = are.summary.late in
    omega arith

pub few_jobs : (input : JobInputData) (t : ℕ) → IsJobInput input → t < length input.jobs → length (jobs_at input.jobs t) ≤ 4000
few_jobs input t valid within =
    let one = get_or-le-sum_by (λ (jobs : List Job). length jobs) input.jobs t [] within in
    let few = valid.few in
    omega arith

-- ---- what is written of them
pub no_responses : (list : List ℕ) → length list ≡ 0 → responses_text list ≡ codes "- -"
unfolding responses_text
no_responses [] none = refl
no_responses (first ∷ rest) none = absurd (omega arith)

pub some_responses : (list : List ℕ) → (length list ≡ 0 → ⊥) → responses_text list ≡ canonical_number (worst_of list) ++ codes " "
    ++ canonical_number (sum list / length list)
unfolding responses_text
some_responses [] some = absurd (some refl)
some_responses (first ∷ rest) some = refl
