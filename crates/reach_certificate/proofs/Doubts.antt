-- The processors of a set that are still to be looked at, from the least one on.
use Rattle.std.proofs.Common.{◌≡◌, ◌≢◌, ℕ, ◌<◌, true, false, not, ◌&&◌, nat_eq, refl, sym, ap, ◌∙◌, inl, inr, arith, eq-eqb, ne_eqb}
use Rattle.std.proofs.Math.Bool.{and-true}
use Rattle.std.proofs.lemmas.Bool.{and_right, not_from_true}
use Rattle.affinity_mask.specs.ProcSet.{has, empty}
use Rattle.affinity_mask.proofs.Sets.{has-zero}
use Rattle.strong_apa.proofs.Counts.{count_below, count_below-one_more}
use Rattle.reach_certificate.specs.Defect.{AllFit, processor_count}

-- how many of the processors are left
abbrev pub left_in : ℕ → ℕ
left_in X = count_below (has X) 64

-- all that are not left fit
abbrev pub OthersFit : (ℕ → Type 0) → ℕ → Type 0
OthersFit Fits X = (k : ℕ) → k < 64 → has X k ≡ false → Fits k

-- one less is left
module _ (X Y p : ℕ) (taken : (q : ℕ) → has Y q ≡ (has X q && not (nat_eq q p))) where
  out : has Y p ≡ false
  out = taken p ∙ and_right (has X p) (not (nat_eq p p)) (not_from_true (nat_eq p p) (eq-eqb p p refl))

  others : (q : ℕ) → q ≢ p → has Y q ≡ has X q
  others q ne = taken q ∙ ap (λ b. has X q && not b) (ne_eqb q p ne) ∙ and-true (has X q)

  pub left_falls : p < 64 → has X p ≡ true → left_in Y < left_in X
  left_falls below there =
      let fewer = count_below-one_more (has X) (has Y) p 64 below there out (λ q lt ne. sym (others q ne)) in omega arith

-- where none is left, all fit
pub none_left : (Fits : ℕ → Type 0) (X : ℕ) → OthersFit Fits X → X ≡ empty → AllFit Fits processor_count
none_left Fits X fit none i looked_at = elim looked_at [
  | inl first ↦ fit i (omega arith) (ap (λ (Y : ℕ). has Y i) none ∙ has-zero i)
  | inr below ↦ fit i below (ap (λ (Y : ℕ). has Y i) none ∙ has-zero i)
]
