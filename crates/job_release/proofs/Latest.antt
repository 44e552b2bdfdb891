-- A job that is finished after it is due is late, and one that is finished by then is not.
use Rattle.std.proofs.Common.{◌≡◌, ℕ, zero, suc, ◌+◌, ◌-◌, ◌≤◌, true, false, ◌&&◌, nat_le, nat_lt, Option, Some, None, MatchOption, IfSome}
use Rattle.std.proofs.Common.{sym, ap, ◌∙◌, inl, inr, arith}
use Rattle.std.proofs.lemmas.Bool.{cases_lt, cases_Bool}
use Rattle.std.proofs.lemmas.Bool.Decides.{nat_tests}
use Rattle.strong_apa.specs.State.{is_linked}
use Rattle.strong_apa.proofs.Counts.{count_below-more, count_below-same}
use Rattle.job_release.specs.Moments.{Timeline, service_of, IsFinish, IsUnfinished}

-- the service never falls
service_more : (states : Timeline) (t x d : ℕ) → service_of states t x ≤ service_of states t (x + d)
service_more states t x zero =
    let none : x + 0 ≡ x = omega arith in
    let same = ap (service_of states t) none in
    omega arith
service_more states t x (suc d) =
    let before = service_more states t x d in
    let next : x + suc d ≡ suc (x + d) = omega arith in
    let same = ap (service_of states t) next in
    elim (cases_Bool (is_linked (states (x + d)) t)) [
      | inl linked ↦ (let one = count_below-more (λ y. is_linked (states y) t) (x + d) linked in omega arith)
      | inr not_linked ↦ (let none = count_below-same (λ y. is_linked (states y) t) (x + d) not_linked in omega arith)
    ]

service_rises : (states : Timeline) (t x y : ℕ) → x ≤ y → service_of states t x ≤ service_of states t y
service_rises states t x y within =
    let d : x + (y - x) ≡ y = omega arith in
    let same = ap (service_of states t) d in
    let more = service_more states t x (y - x) in
    omega arith

pub late_is : (states : Timeline) (t goal horizon due finish : ℕ) → due ≤ horizon → IsFinish states t goal horizon finish
    → nat_lt due finish ≡ (nat_le due horizon && nat_lt (service_of states t due) goal)
late_is states t goal horizon due finish within is =
    let by : nat_le due horizon ≡ true = grind (arith, nat_tests) in
    rw by (elim (cases_lt due finish) [
      | inl before ↦ (
          let least = is.least due before in
          let one : nat_lt due finish ≡ true = grind (arith, nat_tests) in
          let other : nat_lt (service_of states t due) goal ≡ true = grind (arith, nat_tests) in
          one ∙ sym other)
      | inr from ↦ (
          let rises = service_rises states t finish due from in
          let got = is.got in
          let one : nat_lt due finish ≡ false = grind (arith, nat_tests) in
          let other : nat_lt (service_of states t due) goal ≡ false = grind (arith, nat_tests) in
          one ∙ sym other)
    ])

-- a finish is no later than the horizon
pub finish_within : (states : Timeline) (t goal horizon : ℕ) (finish : Option ℕ)
    → MatchOption finish (IsUnfinished states t goal horizon) (IsFinish states t goal horizon) → IfSome finish (λ x. x ≤ horizon)
finish_within states t goal horizon None unfinished = tt
finish_within states t goal horizon (Some x) is = is.within
