-- The set of the numbers that pass a test.
use Rattle.std.proofs.Common.{◌≡◌, ℕ, zero, suc, Bool, true, false, ◌&&◌, ◌||◌, nat_eq, nat_lt, refl, sym, ap, ◌∙◌, inl, inr, arith}
use Rattle.std.specs.Prelude.{if◌then◌else◌}
use Rattle.std.proofs.lemmas.Bool.{cases_eq}
use Rattle.affinity_mask.specs.ProcSet.{has, all_below, with_member, Within}
use Rattle.affinity_mask.proofs.Sets.{same_set, has-zero, has-with_member, has-all_below}
use Rattle.command_line.specs.Shown.{set_below}

-- ---- the set of the numbers below n that pass a test
not_below_zero : (q : ℕ) (b : Bool) → false ≡ (nat_lt q 0 && b)
not_below_zero q b = grind arith

added : (q n : ℕ) (b : Bool) (test : ℕ → Bool) → test n ≡ true → ((nat_lt q n && test q) || nat_eq q n) ≡ (nat_lt q (suc n) && test q)
added q n b test passes = elim (cases_eq q n) [
  | inl same ↦ rw (same, passes) (grind arith)
  | inr other ↦ grind arith
]

kept : (q n : ℕ) (test : ℕ → Bool) → test n ≡ false → (nat_lt q n && test q) ≡ (nat_lt q (suc n) && test q)
kept q n test fails = elim (cases_eq q n) [
  | inl same ↦ rw (same, fails) (grind arith)
  | inr other ↦ grind arith
]

pub has-set_below : (test : ℕ → Bool) (n q : ℕ) → has (set_below test n) q ≡ (nat_lt q n && test q)
unfolding set_below
has-set_below test zero q = has-zero q ∙ not_below_zero q (test q)
has-set_below test (suc n) q = go (has-set_below test n q) (test n) refl
  where
    go : has (set_below test n) q ≡ (nat_lt q n && test q) → (b : Bool) → test n ≡ b
        → has (if b then with_member (set_below test n) n else set_below test n) q ≡ (nat_lt q (suc n) && test q)
    go below true passes = has-with_member (set_below test n) n q ∙ ap (λ (b : Bool). b || nat_eq q n) below ∙ added q n true test passes
    go below false fails = below ∙ kept q n test fails

and_same : (a b : Bool) → (a ≡ true → b ≡ true) → a ≡ (b && a)
and_same a b f = grind arith

-- a set of processors is the set of those that pass a test that says who is in it
pub shown_set : (X : ℕ) (test : ℕ → Bool) → Within X (all_below 64) → ((p : ℕ) → has X p ≡ test p) → X ≡ set_below test 64
shown_set X test within members = same_set X (set_below test 64)
    (λ p. and_same (has X p) (nat_lt p 64) (λ inside. sym (has-all_below 64 p) ∙ within p inside)
    ∙ ap (λ (b : Bool). nat_lt p 64 && b) (members p) ∙ sym (has-set_below test 64 p))
