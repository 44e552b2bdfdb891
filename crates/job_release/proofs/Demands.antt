-- What the first jobs of a list ask for, and so what all that are released by a moment ask for.
use Rattle.std.proofs.Common.{◌≡◌, ℕ, zero, suc, ◌+◌, ◌*◌, ◌-◌, ◌<◌, ◌≤◌, true, false, List, [], ◌∷◌, length, take, nat_le, refl, sym, ap}
use Rattle.std.proofs.Common.{◌∙◌, inl, inr, arith}
use Rattle.std.proofs.lemmas.Bool.{cases_lt, cases_eq}
use Rattle.std.proofs.lemmas.Bool.Decides.{nat_tests}
use Rattle.std.proofs.lemmas.List.Sums.{sum_by-cons, sum_by_more}
use Rattle.job_release.specs.Jobs.{job_at, no_job, asked_at, demand, cost_of, goal_of}
use Rattle.job_release.specs.JobInput.{AreJobs, IsJob}
use Rattle.job_release.specs.declared.input.Job.{Job}
use Rattle.job_release.specs.Driving.{asked_by}

-- ---- the first n jobs
-- one job more
pub asked_more : (jobs : List Job) (n : ℕ) → n < length jobs → asked_by jobs (n + 1) ≡ asked_by jobs n + (job_at jobs n).cost
asked_more jobs n within = sum_by_more cost_of jobs n no_job within

asked_none : (n : ℕ) → asked_by [] n ≡ 0
asked_none zero = refl
asked_none (suc n) = refl

-- and past the last one no more
pub asked_past : (jobs : List Job) (n : ℕ) → length jobs ≤ n → asked_by jobs (n + 1) ≡ asked_by jobs n
asked_past [] n past = asked_none (n + 1) ∙ sym (asked_none n)
asked_past (job ∷ jobs) zero past = absurd (omega arith)
asked_past (job ∷ jobs) (suc n) past =
    let next : suc n + 1 ≡ suc (n + 1) = omega arith in
    ap (asked_by (job ∷ jobs)) next ∙ sum_by-cons cost_of job (take (n + 1) jobs)
    ∙ ap (λ (k : ℕ). job.cost + k) (asked_past jobs n (omega arith))
    ∙ sym (sum_by-cons cost_of job (take n jobs))

pub asked_grows : (jobs : List Job) (n d : ℕ) → asked_by jobs n ≤ asked_by jobs (n + d)
asked_grows jobs n zero = let none : n + 0 ≡ n = omega arith in let same = ap (asked_by jobs) none in omega arith
asked_grows jobs n (suc d) =
    let before = asked_grows jobs n d in
    let next : n + suc d ≡ (n + d) + 1 = omega arith in
    let same = ap (asked_by jobs) next in
    elim (cases_lt (n + d) (length jobs)) [
      | inl within ↦ (let more = asked_more jobs (n + d) within in omega arith)
      | inr past ↦ (let none = asked_past jobs (n + d) past in omega arith)
    ]

-- more jobs ask for no less
pub asked_upto : (jobs : List Job) (m n : ℕ) → m ≤ n → asked_by jobs m ≤ asked_by jobs n
asked_upto jobs m n le =
    let rest : m + (n - m) ≡ n = omega arith in
    let grown = asked_grows jobs m (n - m) in
    let same = ap (asked_by jobs) rest in
    omega arith

pub asked_most : (jobs : List Job) (n : ℕ) → ((k : ℕ) → k < length jobs → (job_at jobs k).cost ≤ 10000000) → asked_by jobs n ≤ n * 10000000
asked_most jobs zero each = omega arith
asked_most jobs (suc n) each =
    let before = asked_most jobs n each in
    let next : suc n ≡ n + 1 = omega arith in
    let same = ap (asked_by jobs) next in
    elim (cases_lt n (length jobs)) [
      | inl within ↦ (let more = asked_more jobs n within in let most = each n within in omega arith)
      | inr past ↦ (let none = asked_past jobs n past in omega arith)
    ]

-- ---- the jobs of a task
module _ (horizon : ℕ) (jobs : List Job) (valid : AreJobs horizon jobs) where
  pub job_valid : (k : ℕ) → k < length jobs → IsJob horizon (job_at jobs k)
  job_valid k within = valid.each k no_job within

  pub released_later : (j k : ℕ) → j ≤ k → k < length jobs → (job_at jobs j).release ≤ (job_at jobs k).release
  released_later j k le within = elim (cases_eq j k) [
    | inl same ↦ (let release = ap (λ (i : ℕ). (job_at jobs i).release) same in omega arith)
    | inr differs ↦ valid.in_order j k no_job (omega (arith, differs)) within
  ]

  -- each job asks for something
  pub goal_more : (k : ℕ) → k < length jobs → asked_by jobs k < goal_of jobs k
  goal_more k within = let more = asked_more jobs k within in let some = (job_valid k within).cost.0 in omega arith

  pub goal_fits : (n : ℕ) → n ≤ 4000 → asked_by jobs n ≤ 40000000000
  goal_fits n few = let most = asked_most jobs n (λ k within. (job_valid k within).cost.1) in omega arith

-- ---- those that are released by a moment
asks_nothing : (x : ℕ) (job : Job) → x < job.release → asked_at x job ≡ 0
asks_nothing x job later = let not_by : nat_le job.release x ≡ false = grind (arith, nat_tests) in rw not_by refl

asks_all : (x : ℕ) (job : Job) → job.release ≤ x → asked_at x job ≡ job.cost
asks_all x job released = let by : nat_le job.release x ≡ true = grind (arith, nat_tests) in rw by refl

asks_no_more : (x : ℕ) (job : Job) → asked_at x job ≤ job.cost
asks_no_more x job = elim (cases_lt x job.release) [
  | inl later ↦ (let none = asks_nothing x job later in omega arith)
  | inr released ↦ (let all = asks_all x job released in omega arith)
]

-- no job from r on is released by the moment
demand_most : (jobs : List Job) (r x : ℕ) → ((k : ℕ) → r ≤ k → k < length jobs → x < (job_at jobs k).release)
    → demand jobs x ≤ asked_by jobs r
demand_most [] zero x after = omega arith
demand_most [] (suc r) x after = omega arith
demand_most (job ∷ jobs) zero x after =
    let here = asks_nothing x job (after 0 (omega arith) (omega arith)) in
    let rest = demand_most jobs zero x (λ k from within. after (suc k) (omega arith) (omega arith)) in
    omega (arith, sum_by-cons (asked_at x) job jobs, here, rest)
demand_most (job ∷ jobs) (suc r) x after =
    let here = asks_no_more x job in
    let rest = demand_most jobs r x (λ k from within. after (suc k) (omega arith) (omega arith)) in
    omega (arith, sum_by-cons (asked_at x) job jobs, sum_by-cons cost_of job (take r jobs), here, rest)

-- the first r jobs are released by the moment, and no other one
pub demand_is : (jobs : List Job) (r x : ℕ) → r ≤ length jobs → ((k : ℕ) → k < r → (job_at jobs k).release ≤ x)
    → ((k : ℕ) → r ≤ k → k < length jobs → x < (job_at jobs k).release)
    → demand jobs x ≡ asked_by jobs r
demand_is [] zero x few before after = refl
demand_is [] (suc r) x few before after = refl
demand_is (job ∷ jobs) zero x few before after =
    let here = asks_nothing x job (after 0 (omega arith) (omega arith)) in
    let rest = demand_is jobs zero x (omega arith) (λ k below. absurd (omega arith))
    (λ k from within. after (suc k) (omega arith) (omega arith)) in
    omega (arith, sum_by-cons (asked_at x) job jobs, here, rest)
demand_is (job ∷ jobs) (suc r) x few before after =
    let here = asks_all x job (before 0 (omega arith)) in
    let rest = demand_is jobs r x (omega arith) (λ k below. before (suc k) (omega arith))
    (λ k from within. after (suc k) (omega arith) (omega arith)) in
    omega (arith, sum_by-cons (asked_at x) job jobs, sum_by-cons cost_of job (take r jobs), here, rest)

-- before the release of job k no more is asked for than by the jobs before it
pub demand_before : (horizon : ℕ) (jobs : List Job) → AreJobs horizon jobs → (k x : ℕ) → k < length jobs → x < (job_at jobs k).release
    → demand jobs x ≤ asked_by jobs k
demand_before horizon jobs valid k x within early =
    demand_most jobs k x (λ j from inside. let order = released_later horizon jobs valid k j from inside in omega arith)
