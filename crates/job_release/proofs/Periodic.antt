-- The jobs of a periodic task: its demand is the cost of each job that is released, and its goals are multiples of the cost.
use Rattle.std.proofs.Common.{◌≡◌, ℕ, zero, suc, ◌+◌, ◌-◌, ◌*◌, ◌<◌, ◌≤◌, List, length, get_or, map, Some, nat_le, sum_by, true, false}
use Rattle.std.proofs.Common.{refl, sym, ap, ◌∙◌, subst, inl, inr, arith}
use Rattle.std.specs.List.{range_with_len}
use Rattle.std.proofs.lemmas.Bool.{cases_lt}
use Rattle.std.proofs.lemmas.Bool.Decides.{nat_tests}
use Rattle.std.proofs.lemmas.List.FromFn.{length-map-range_with_len, get_or-map-range_with_len, take-map-range_with_len}
use Rattle.std.proofs.lemmas.List.FromFn.{sum_by-map-range_with_len_more}
use Rattle.job_release.specs.Jobs.{no_job, job_at, asked_at, cost_of, due_after, release_moment, released_before, released_by, periodic_job}
use Rattle.job_release.specs.Jobs.{periodic_jobs}
use Rattle.job_release.specs.JobInput.{IsJobTask, IsJob, AreJobs}
use Rattle.job_release.specs.declared.input.Job.{Job}
use Rattle.job_release.specs.declared.input.JobTask.{JobTask}
use Rattle.job_release.specs.PeriodicLaws.{PeriodicDemand, PeriodicGoals, PeriodicDueTimes}
use Rattle.job_release.proofs.Released.{release_more, released_below, released_at_least}

pub length-periodic_jobs : (horizon : ℕ) (task : JobTask) → length (periodic_jobs horizon task) ≡ released_before task horizon
length-periodic_jobs horizon task = length-map-range_with_len (periodic_job task) 0 (released_before task horizon)

pub periodic_at : (horizon : ℕ) (task : JobTask) (k : ℕ) (d : Job) → k < length (periodic_jobs horizon task)
    → get_or (periodic_jobs horizon task) k d ≡ periodic_job task k
periodic_at horizon task k d below =
    get_or-map-range_with_len (periodic_job task) 0 (released_before task horizon) k k d
    (let count = length-periodic_jobs horizon task in omega arith) (omega arith)

-- ---- they are jobs
periodic_job_valid : (horizon : ℕ) (task : JobTask) (k : ℕ) → IsJobTask task → k < released_before task horizon
    → IsJob horizon (periodic_job task k)
periodic_job_valid horizon task k is below = record {
  release = released_below task k horizon below;
  cost = (is.cost.0, (let most = is.cost.1 in omega arith));
  deadline = (is.period.0, (let most = is.period.1 in omega arith));
}

pub periodic_valid : (horizon : ℕ) (task : JobTask) → IsJobTask task → AreJobs horizon (periodic_jobs horizon task)
periodic_valid horizon task is =
    let count = length-periodic_jobs horizon task in
    record {
      each = λ k d below. subst (IsJob horizon) (sym (periodic_at horizon task k d below))
          (periodic_job_valid horizon task k is (let within : k < released_before task horizon = omega arith in within));
      in_order = λ i j d less below.
          let first = periodic_at horizon task i d (omega arith) in
          let second = periodic_at horizon task j d below in
          rw (first, second) (release_more task i j (omega arith));
    }

-- ---- what they ask for
released_again : (task : JobTask) (x y : ℕ) → 1 ≤ task.period → x ≤ y → released_before task x ≤ released_before task y
released_again task x y some within =
    released_at_least task (released_before task x) y some (λ k below. let before = released_below task k x below in omega arith)

-- a job is released at a moment up to x where fewer are before it than are released by then
asked_before : (task : JobTask) (x k : ℕ) → k < released_by task x → asked_at x (periodic_job task k) ≡ task.cost
asked_before task x k below = let before = released_below task k (x + 1) below in let here : nat_le (release_moment task k) x
    ≡ true = within_is _ _ (omega arith) in rw here refl
  where
    within_is : (a b : ℕ) → a ≤ b → nat_le a b ≡ true
    within_is a b within = grind (arith, nat_tests)

asked_after : (task : JobTask) (x k : ℕ) → 1 ≤ task.period → released_by task x ≤ k → asked_at x (periodic_job task k) ≡ 0
asked_after task x k some from = elim (cases_lt x (release_moment task k)) [
  | inl later ↦ (let here : nat_le (release_moment task k) x ≡ false = beyond_is _ _ later in rw here refl)
  | inr within ↦ (
      let least = released_at_least task (k + 1) (x + 1) some (λ j below. let more = release_more task j k (omega arith) in omega arith) in
      absurd (omega arith))
]
  where
    beyond_is : (a b : ℕ) → b < a → nat_le a b ≡ false
    beyond_is a b beyond = grind (arith, nat_tests)

-- the first n jobs, released or not
first_jobs : JobTask → ℕ → List Job
first_jobs task n = map (periodic_job task) (range_with_len 0 n)

asked_by_first : (task : JobTask) (x n : ℕ) → n ≤ released_by task x → sum_by (asked_at x) (first_jobs task n) ≡ n * task.cost
unfolding first_jobs
asked_by_first task x zero within = omega arith
asked_by_first task x (suc n) within =
    let before = asked_by_first task x n (omega arith) in
    let next : suc n ≡ n + 1 = omega arith in
    let more = sum_by-map-range_with_len_more (asked_at x) (periodic_job task) 0 n n (omega arith) in
    let last = asked_before task x n (omega arith) in
    let product : suc n * task.cost ≡ n * task.cost + task.cost = omega arith in
    ap (λ (k : ℕ). sum_by (asked_at x) (first_jobs task k)) next ∙ omega (arith, before, more, last, product)

asked_by_rest : (task : JobTask) (x rest : ℕ) → 1 ≤ task.period
    → sum_by (asked_at x) (first_jobs task (released_by task x + rest)) ≡ released_by task x * task.cost
unfolding first_jobs
asked_by_rest task x zero some =
    let r : ℕ = released_by task x in
    let none : r + 0 ≡ r = omega arith in
    ap (λ (n : ℕ). sum_by (asked_at x) (first_jobs task n)) none ∙ asked_by_first task x r (omega arith)
asked_by_rest task x (suc rest) some =
    let before = asked_by_rest task x rest some in
    let n : ℕ = released_by task x + rest in
    let next : released_by task x + suc rest ≡ n + 1 = omega arith in
    let more = sum_by-map-range_with_len_more (asked_at x) (periodic_job task) 0 n n (omega arith) in
    let last = asked_after task x n some (omega arith) in
    ap (λ (k : ℕ). sum_by (asked_at x) (first_jobs task k)) next ∙ omega (arith, before, more, last)

pub periodic_demand : PeriodicDemand
unfolding first_jobs
periodic_demand horizon task x some below =
    let released = released_again task (x + 1) horizon some (omega arith) in
    let n : ℕ = released_before task horizon in
    let rest : ℕ = n - released_by task x in
    let whole : n ≡ released_by task x + rest = omega arith in
    ap (λ (count : ℕ). sum_by (asked_at x) (first_jobs task count)) whole ∙ asked_by_rest task x rest some

cost_of_first : (task : JobTask) (n : ℕ) → sum_by cost_of (first_jobs task n) ≡ n * task.cost
unfolding first_jobs
cost_of_first task zero = omega arith
cost_of_first task (suc n) =
    let before = cost_of_first task n in
    let next : suc n ≡ n + 1 = omega arith in
    let more = sum_by-map-range_with_len_more cost_of (periodic_job task) 0 n n (omega arith) in
    let product : suc n * task.cost ≡ n * task.cost + task.cost = omega arith in
    ap (λ (k : ℕ). sum_by cost_of (first_jobs task k)) next ∙ omega (arith, before, more, product)

pub periodic_goals : PeriodicGoals
unfolding first_jobs
periodic_goals horizon task k below =
    ap (sum_by cost_of) (take-map-range_with_len (periodic_job task) 0 (released_before task horizon) (k + 1) (omega arith))
    ∙ cost_of_first task (k + 1)

pub periodic_due : PeriodicDueTimes
periodic_due horizon task k below =
    let count = length-periodic_jobs horizon task in
    let here : job_at (periodic_jobs horizon task) k ≡ periodic_job task k = periodic_at horizon task k no_job (omega arith) in
    ap (λ (job : Job). due_after (periodic_jobs horizon task) k job.deadline) here
    ∙ ap (λ (job : Job). Some (job.release + task.period)) here
    ∙ ap Some (let next : release_moment task k + task.period ≡ release_moment task (k + 1) = omega arith in next)
