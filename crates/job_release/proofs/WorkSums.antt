-- Sums over rows, and how many events they account for.
use Rattle.std.proofs.Common.{◌≡◌, ℕ, zero, suc, ◌+◌, ◌*◌, ◌<◌, ◌≤◌, Bool, true, false, List, [], ◌∷◌, length, get_or, sum_by, ◌==◌}
use Rattle.std.proofs.Common.{if◌then◌else◌, nat_lt, refl, sym, ap, ◌∙◌, inl, inr, arith, length-append, eq-eqb, ne_eqb}
use Rattle.std.proofs.lemmas.Bool.{cases_lt}
use Rattle.std.proofs.lemmas.Bool.Decides.{nat_tests}
use Rattle.std.proofs.lemmas.List.Sums.{sum_by-cons, get_or-le-sum_by}
use Rattle.job_release.specs.Jobs.{job_at, goal_of}
use Rattle.job_release.specs.JobInput.{total_jobs}
use Rattle.job_release.specs.declared.input.Job.{Job}
use Rattle.job_release.specs.Driving.{work_of, done_of, jobs_of, BeginsAt, HasCost, Finishes, Releases}
use Rattle.job_release.specs.declared.row.JobRow.{JobRow}

-- ---- sums
-- smaller terms have a smaller sum
pub sum_of_less : {X : Type 0} (f g : X → ℕ) (xs ys : List X) → length xs ≡ length ys
    → ((k : ℕ) (d : X) → k < length xs → f (get_or xs k d) ≤ g (get_or ys k d)) → sum_by f xs ≤ sum_by g ys
sum_of_less f g [] ys count each = omega arith
sum_of_less f g (x ∷ xs) [] count each = absurd (omega arith)
sum_of_less f g (x ∷ xs) (y ∷ ys) count each =
    let rest = sum_of_less f g xs ys (omega arith) (λ k d below. each (suc k) d (omega arith)) in
    let here : f x ≤ g y = each 0 x (omega arith) in
    omega (arith, sum_by-cons f x xs, sum_by-cons g y ys)

-- and where one is less by one at least, so is the sum
pub sum_of_one_less : {X : Type 0} (f g : X → ℕ) (xs ys : List X) (t : ℕ) → length xs ≡ length ys → t < length xs
    → ((k : ℕ) (d : X) → k < length xs → f (get_or xs k d) ≤ g (get_or ys k d))
    → ((d : X) → f (get_or xs t d) + 1 ≤ g (get_or ys t d)) → sum_by f xs + 1 ≤ sum_by g ys
sum_of_one_less f g [] ys t count within each one = absurd (omega arith)
sum_of_one_less f g (x ∷ xs) [] t count within each one = absurd (omega arith)
sum_of_one_less f g (x ∷ xs) (y ∷ ys) zero count within each one =
    let rest = sum_of_less f g xs ys (omega arith) (λ k d below. each (suc k) d (omega arith)) in
    let here : f x + 1 ≤ g y = one x in
    omega (arith, sum_by-cons f x xs, sum_by-cons g y ys)
sum_of_one_less f g (x ∷ xs) (y ∷ ys) (suc t) count within each one =
    let rest = sum_of_one_less f g xs ys t (omega arith) (omega arith) (λ k d below. each (suc k) d (omega arith)) one in
    let here : f x ≤ g y = each 0 x (omega arith) in
    omega (arith, sum_by-cons f x xs, sum_by-cons g y ys)

-- four times a term and two bound the term of another sum
pub sum_within : {X : Type 0} (f g : X → ℕ) (xs : List X)
    → ((k : ℕ) (d : X) → k < length xs → f (get_or xs k d) ≤ 4 * g (get_or xs k d) + 2) → sum_by f xs ≤ 4 * sum_by g xs + 2 * length xs
sum_within f g [] each = omega arith
sum_within f g (x ∷ xs) each =
    let rest = sum_within f g xs (λ k d below. each (suc k) d (omega arith)) in
    let here : f x ≤ 4 * g x + 2 = each 0 x (omega arith) in
    omega (arith, sum_by-cons f x xs, sum_by-cons g x xs)

-- the jobs of the rows
pub total_of_rows : (rows : List JobRow) → total_jobs (jobs_of rows) ≡ sum_by (λ (row : JobRow). length row.jobs.items) rows
total_of_rows [] = refl
total_of_rows (row ∷ rows) =
    sum_by-cons (λ (jobs : List Job). length jobs) row.jobs.items (jobs_of rows)
    ∙ ap (λ (n : ℕ). length row.jobs.items + n) (total_of_rows rows)
    ∙ sym (sum_by-cons (λ (r : JobRow). length r.jobs.items) row rows)

pub count_within_total : (rows : List JobRow) (t : ℕ) (d : JobRow) → t < length rows → length (get_or rows t d).jobs.items
    ≤ total_jobs (jobs_of rows)
count_within_total rows t d within = rw (total_of_rows rows) (get_or-le-sum_by (λ (row : JobRow). length row.jobs.items) rows t d within)

-- ---- what one row accounts for
abbrev release_bit : ℕ → JobRow → ℕ
release_bit moment row =
    if nat_lt row.released (length row.jobs.items) then (if (job_at row.jobs.items row.released).release == moment then 1 else 0) else 0

abbrev finish_bit : JobRow → ℕ
finish_bit row = if nat_lt (done_of row) row.released then (if row.service == goal_of row.jobs.items (done_of row) then 1 else 0) else 0

bit : (a b : Bool) → (if a then (if b then 1 else 0) else 0) ≤ 1
bit true true = omega arith
bit true false = omega arith
bit false b = omega arith

is_below : (a b : ℕ) → a < b → nat_lt a b ≡ true
is_below a b below = grind (arith, nat_tests)

not_below : (a b : ℕ) → b ≤ a → nat_lt a b ≡ false
not_below a b from = grind (arith, nat_tests)

pub work_most : (moment : ℕ) (row : JobRow) → work_of moment row ≤ 2 * (row.released + done_of row) + 2
work_most moment row =
    omega (
      arith,
      bit (nat_lt row.released (length row.jobs.items)) ((job_at row.jobs.items row.released).release == moment),
      bit (nat_lt (done_of row) row.released) (row.service == goal_of row.jobs.items (done_of row)),
    )

pub work_least : (moment : ℕ) (row : JobRow) → 2 * (row.released + done_of row) ≤ work_of moment row
work_least moment row = omega arith

-- without a release or a finish that is due
pub no_release_bit : (moment : ℕ) (row : JobRow) → (BeginsAt moment row.jobs.items row.released → ⊥) → release_bit moment row ≡ 0
no_release_bit moment row none = elim (cases_lt row.released (length row.jobs.items)) [
  | inl within ↦ rw (
    is_below row.released (length row.jobs.items) within,
    ne_eqb (job_at row.jobs.items row.released).release moment
        (λ e. none (within, e)),
  ) refl
  | inr past ↦ rw (not_below row.released (length row.jobs.items) past) refl
]

pub no_finish_bit : (row : JobRow) → (HasCost row → ⊥) → finish_bit row ≡ 0
no_finish_bit row none = elim (cases_lt (done_of row) row.released) [
  | inl work ↦ rw (
    is_below (done_of row) row.released work,
    ne_eqb row.service (goal_of row.jobs.items (done_of row))
        (λ e. none (work, e)),
  ) refl
  | inr idle ↦ rw (not_below (done_of row) row.released idle) refl
]

-- nothing is due
pub work_without : (moment : ℕ) (row : JobRow) → (BeginsAt moment row.jobs.items row.released → ⊥) → (HasCost row → ⊥)
    → work_of moment row ≡ 2 * (row.released + done_of row)
work_without moment row no_release no_finish = omega (arith, no_release_bit moment row no_release, no_finish_bit row no_finish)

-- no finish is due
pub work_unfinished : (moment : ℕ) (row : JobRow) → (HasCost row → ⊥) → work_of moment row ≤ 2 * (row.released + done_of row) + 1
work_unfinished moment row no_finish =
    omega (
      arith,
      bit (nat_lt row.released (length row.jobs.items)) ((job_at row.jobs.items row.released).release == moment),
      no_finish_bit row no_finish,
    )

-- something is due
pub work_with_release : (moment : ℕ) (row : JobRow) → BeginsAt moment row.jobs.items row.released → 2 * (row.released + done_of row) + 1
    ≤ work_of moment row
work_with_release moment row (within, release) =
    let one : release_bit moment row ≡ 1 = rw (
      is_below row.released (length row.jobs.items) within,
      eq-eqb (job_at row.jobs.items row.released).release moment release,
    ) refl in
    omega (arith, one)

pub work_with_finish : (moment : ℕ) (row : JobRow) → HasCost row → 2 * (row.released + done_of row) + 1 ≤ work_of moment row
work_with_finish moment row (work, finish) =
    let one : finish_bit row ≡ 1 = rw (
      is_below (done_of row) row.released work,
      eq-eqb row.service (goal_of row.jobs.items (done_of row))
          finish,
    ) refl in
    omega (arith, one)

-- ---- what a change of the row accounts for
-- a finish pays for itself and one event more
pub work_settled : (moment : ℕ) (old new : JobRow) → Finishes moment old new → work_of moment old + 1 ≤ work_of moment new
work_settled moment old new ends =
    let done : done_of new ≡ done_of old + 1 = ap length ends.finishes ∙ length-append old.finishes.items (moment ∷ []) in
    let same : release_bit moment new ≡ release_bit moment old = rw (ends.jobs, ends.released) refl in
    let released = ends.released in
    omega (arith, done, same, bit (nat_lt (done_of old) old.released) (old.service == goal_of old.jobs.items (done_of old)))

-- jobs that are released pay for one event, where no finish is due
pub work_more_supplied : (moment : ℕ) (old new : JobRow) → Releases moment old new → (HasCost old → ⊥) → old.released < new.released
    → work_of moment old + 1 ≤ work_of moment new
work_more_supplied moment old new begins none more =
    let done : done_of new ≡ done_of old = rw begins.finishes refl in
    omega (arith, done, work_unfinished moment old none, work_least moment new)

-- no release takes any away
pub work_supplied : (moment : ℕ) (old new : JobRow) → Releases moment old new → (HasCost old → ⊥) → work_of moment old ≤ work_of moment new
work_supplied moment old new begins none = elim (cases_lt old.released new.released) [
  | inl more ↦ (let gain = work_more_supplied moment old new begins none more in omega arith)
  | inr same ↦ (
      let more = begins.more in
      let released : new.released ≡ old.released = omega arith in
      let done : done_of new ≡ done_of old = rw begins.finishes refl in
      let bits : release_bit moment new ≡ release_bit moment old = rw (begins.jobs, released) refl in
      omega (arith, done, bits, no_finish_bit old none))
]
