-- The least processor of a mask that a machine has not.
use Rattle.std.proofs.Common.{◌≡◌, ℕ, ◌<◌, ◌≤◌, Bool, true, false, not, ◌&&◌, nat_lt, IsTrue, Option, None, Some, refl, sym, ap, ◌∙◌, arith}
use Rattle.std.specs.Prelude.{MatchOption, IfSome, IsNone, ◌↔◌}
use Rattle.std.proofs.lemmas.Bool.{true≢false}
use Rattle.std.proofs.lemmas.Bool.Decides.{nat_tests}
use Rattle.affinity_mask.specs.ProcSet.{has, empty, IsLeastMember}
use Rattle.affinity_mask.proofs.Sets.{has-zero}
use Rattle.task_set.specs.Refusal.{IsLeastOutside}

-- a number is in a mask, and not below m
pub both_ways : (in_mask : Bool) (q m : ℕ) → (in_mask && not (nat_lt q m)) ≡ true → (in_mask ≡ true) × (m ≤ q)
both_ways true q m e = (refl, grind (arith, nat_tests))
both_ways false q m e = absurd (true≢false (sym e))

pub outside_is : (in_mask : Bool) (q m : ℕ) → in_mask ≡ true → m ≤ q → (in_mask && not (nat_lt q m)) ≡ true
outside_is true q m e le = grind (arith, nat_tests)
outside_is false q m e le = absurd (true≢false (sym e))

pub inside_is : (in_mask : Bool) (q m : ℕ) → (in_mask && not (nat_lt q m)) ≡ false → in_mask ≡ true → q < m
inside_is true q m e passes = grind (arith, nat_tests)
inside_is false q m e passes = absurd (true≢false (sym passes))

-- what `least` answers of the difference
pub outside_by : (X m first outside : ℕ) → ((q : ℕ) → has first q ≡ nat_lt q m) → ((q : ℕ) → has outside q ≡ (has X q && not (has first q)))
    → (r : Option ℕ) → IsNone r ↔ (outside ≡ empty) → IfSome r (IsLeastMember outside)
    → MatchOption r ((p : ℕ) → IsTrue (has X p) → p < m) (IsLeastOutside m X)
outside_by X m first outside is_first is_outside r none least = by r none least
  where
    is : (q : ℕ) → has outside q ≡ (has X q && not (nat_lt q m))
    is q = is_outside q ∙ ap (λ b. has X q && not b) (is_first q)

    by : (r : Option ℕ) → IsNone r ↔ (outside ≡ empty) → IfSome r (IsLeastMember outside)
        → MatchOption r ((p : ℕ) → IsTrue (has X p) → p < m) (IsLeastOutside m X)
    by None none least = λ p member. inside_is (has X p) p m (sym (is p) ∙ ap (λ Y. has Y p) (none.0 refl) ∙ has-zero p) member
    by (Some p) none least =
        let parts = both_ways (has X p) p m (sym (is p) ∙ least.0) in
        record { member = parts.0; outside = parts.1; least = λ q member le. least.1 q (is q ∙ outside_is (has X q) q m member le) }
