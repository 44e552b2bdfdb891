-- How many jobs are released before a moment: as many as are released one after another up to the first that is not.
use Rattle.std.proofs.Common.{◌≡◌, ℕ, zero, suc, ◌+◌, ◌*◌, ◌-◌, ◌/◌, ◌<◌, ◌≤◌, Bool, true, false, length, nat_lt, refl, ap, ◌∙◌, inl, inr}
use Rattle.std.proofs.Common.{arith, length-append, [], ◌∷◌}
use Rattle.std.proofs.lemmas.Bool.{cases_Bool, cases_lt, lt-ltb}
use Rattle.std.proofs.Math.Nat.{mul-le-mul_left, mul-le-mul_right, mod-lt}
use Rattle.std.proofs.lemmas.Nat.{div-add-mod'}
use Rattle.std.proofs.lemmas.Bool.Decides.{nat_tests}
use Rattle.affinity_mask.specs.ProcSet.{passing_below}
use Rattle.affinity_mask.proofs.Lists.{passing_more, passing_same}
use Rattle.job_release.specs.Jobs.{release_moment, released_before}
use Rattle.job_release.specs.declared.input.JobTask.{JobTask}

-- ---- how many numbers below n pass a test
passing_none_below_zero : (test : ℕ → Bool) → length (passing_below test 0) ≡ 0
unfolding passing_below
passing_none_below_zero test = refl

more : (test : ℕ → Bool) (n : ℕ) → test n ≡ true → length (passing_below test (suc n)) ≡ length (passing_below test n) + 1
more test n e = ap length (passing_more test n e) ∙ length-append (passing_below test n) (n ∷ [])

same : (test : ℕ → Bool) (n : ℕ) → test n ≡ false → length (passing_below test (suc n)) ≡ length (passing_below test n)
same test n e = ap length (passing_same test n e)

-- each number below r passes
pub at_least : (test : ℕ → Bool) (r n : ℕ) → r ≤ n → ((k : ℕ) → k < r → test k ≡ true) → r ≤ length (passing_below test n)
at_least test r zero within passes = omega arith
at_least test r (suc n) within passes = elim (cases_lt n r) [
  | inl last ↦ (
      let before = at_least test n n (omega arith) (λ k below. passes k (omega arith)) in
      let one = more test n (passes n last) in omega arith)
  | inr rest ↦ (
      let before = at_least test r n (omega arith) passes in
      elim (cases_Bool (test n)) [
        | inl h ↦ (let one = more test n h in omega arith)
        | inr h ↦ (let none = same test n h in omega arith)
      ])
]

bound : (test : ℕ → Bool) (n : ℕ) → length (passing_below test n) ≤ n
bound test zero = omega (arith, passing_none_below_zero test)
bound test (suc n) = let before = bound test n in elim (cases_Bool (test n)) [
  | inl h ↦ (let one = more test n h in omega arith)
  | inr h ↦ (let none = same test n h in omega arith)
]

-- no number from r on passes
pub at_most : (test : ℕ → Bool) (r n : ℕ) → ((k : ℕ) → r ≤ k → test k ≡ false) → length (passing_below test n) ≤ r
at_most test r zero fails = omega (arith, passing_none_below_zero test)
at_most test r (suc n) fails = elim (cases_lt n r) [
  | inl below ↦ (let most = bound test (suc n) in omega arith)
  | inr from ↦ (
      let before = at_most test r n fails in
      let none = same test n (fails n from) in omega arith)
]

-- ---- releases
-- each release is later than those before it
pub release_more : (job : JobTask) (j k : ℕ) → j ≤ k → release_moment job j ≤ release_moment job k
release_more job j k within = let steps : j * job.period ≤ k * job.period = mul-le-mul_right job.period within in omega arith

pub release_at_least : (job : JobTask) (k : ℕ) → 1 ≤ job.period → k ≤ release_moment job k
release_at_least job k some = let steps : k * 1 ≤ k * job.period = mul-le-mul_left k some in omega arith

not_before : (a b : ℕ) → b ≤ a → nat_lt a b ≡ false
not_before a b from = grind (arith, nat_tests)

-- so many jobs at least are released before x
pub released_at_least : (job : JobTask) (r x : ℕ) → 1 ≤ job.period → ((k : ℕ) → k < r → release_moment job k < x)
    → r ≤ released_before job x
released_at_least job zero x some before = omega arith
released_at_least job (suc r) x some before =
    let last = before r (omega arith) in
    let own = release_at_least job r some in
    at_least (λ k. nat_lt (release_moment job k) x) (suc r) x (omega arith) (λ k below. lt-ltb (release_moment job k) x (before k below))

-- so many, where the next one is not
pub released_is : (job : JobTask) (r x : ℕ) → 1 ≤ job.period → ((k : ℕ) → k < r → release_moment job k < x) → x ≤ release_moment job r
    → released_before job x ≡ r
released_is job r x some before next =
    let least = released_at_least job r x some before in
    let most = at_most (λ k. nat_lt (release_moment job k) x) r x
    (λ k from. not_before (release_moment job k) x (let later = release_more job r k from in omega arith)) in
    omega arith

-- each of so many is released before x
pub released_below : (job : JobTask) (k x : ℕ) → k < released_before job x → release_moment job k < x
released_below job k x below = elim (cases_lt (release_moment job k) x) [
  | inl before ↦ before
  | inr from ↦ (
      let most = at_most (λ j. nat_lt (release_moment job j) x) k x
      (λ j later. not_before (release_moment job j) x (let more = release_more job k j later in omega arith)) in
      absurd (omega (arith, most, below)))
]

-- the number by division
pub released_when_divided : (job : JobTask) (x : ℕ) → 1 ≤ job.period → job.offset < x
    → released_before job x ≡ (x - job.offset - 1) / job.period + 1
released_when_divided job x some after =
    let parts = div-add-mod' (x - job.offset - 1) job.period in
    let rest = mod-lt (x - job.offset - 1) some in
    let q : ℕ = (x - job.offset - 1) / job.period in
    let next : (q + 1) * job.period ≡ q * job.period + job.period = omega arith in
    released_is job (q + 1) x some (λ k below. let steps : k * job.period
    ≤ q * job.period = mul-le-mul_right job.period (let le : k ≤ q = omega arith in le) in omega arith) (omega arith)
