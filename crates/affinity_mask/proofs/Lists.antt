-- Canonical lists of small sets.
use Rattle.std.proofs.Common.{◌≡◌, ◌≢◌, ℕ, zero, suc, Bool, true, false, not, ◌&&◌, ◌||◌, ◌+◌, ◌-◌, ◌<◌, ◌≤◌, ◌⊎◌, inl, inr, nat_eq, refl}
use Rattle.std.proofs.Common.{ap₂, ◌∙◌, arith, ⊎_elim, eq-eqb, ne_eqb, List, [], ◌∷◌, ◌++◌, append-nil}
use Rattle.std.proofs.lemmas.Bool.{cases_eq}
use Rattle.affinity_mask.specs.Number.{canonical_number}
use Rattle.affinity_mask.specs.ProcSet.{has, empty, passing_below}
use Rattle.affinity_mask.specs.ListText.{begins_run, ends_run, canonical_list}
use Rattle.affinity_mask.proofs.Sets.{has-zero}

-- ---- the numbers below n that pass a test

pub passing_more : (test : ℕ → Bool) (n : ℕ) → test n ≡ true → passing_below test (suc n) ≡ passing_below test n ++ n ∷ []
unfolding passing_below
passing_more test n e = rw e refl

pub passing_same : (test : ℕ → Bool) (n : ℕ) → test n ≡ false → passing_below test (suc n) ≡ passing_below test n
unfolding passing_below
passing_same test n e = rw e (append-nil (passing_below test n))

-- where no number passes, the list is empty
passing_none : (test : ℕ → Bool) → ((q : ℕ) → test q ≡ false) → (n : ℕ) → passing_below test n ≡ []
unfolding passing_below
passing_none test none zero = refl
passing_none test none (suc n) = passing_same test n (none n) ∙ passing_none test none n

-- where one number alone passes, the list is empty up to it, and has it alone from there on
passing_one : (test : ℕ → Bool) (p : ℕ) → ((q : ℕ) → test q ≡ nat_eq q p) → (n : ℕ) → ((n ≤ p) × (passing_below test n ≡ []))
    ⊎ ((p < n) × (passing_below test n ≡ p ∷ []))
unfolding passing_below
passing_one test p one zero = inl (omega arith, refl)
passing_one test p one (suc n) =
    elim (passing_one test p one n) [
      | inl before ↦ ⊎_elim
          (λ (e : n ≡ p). inr (
            omega arith,
            passing_more test n (one n ∙ eq-eqb n p e)
                ∙ ap₂ (λ (xs : List ℕ) (k : ℕ). xs ++ k ∷ []) (before.1) e,
          ))
          (λ (ne : n ≢ p). inl (omega (arith, before.0), passing_same test n (one n ∙ ne_eqb n p ne) ∙ before.1))
          (cases_eq n p)
      | inr after ↦
          let ne : n ≢ p = omega (arith, after.0) in
          inr (omega (arith, after.0), passing_same test n (one n ∙ ne_eqb n p ne) ∙ after.1)
    ]

-- the same at a number above the one
passing_alone : (test : ℕ → Bool) (p n : ℕ) → ((q : ℕ) → test q ≡ nat_eq q p) → p < n → passing_below test n ≡ p ∷ []
passing_alone test p n one below =
    elim (passing_one test p one n) [ inl before ↦ absurd (omega (arith, before.0)) | inr after ↦ after.1 ]

-- ---- the sets of one processor and of none

begins_alone : (q p : ℕ) → (nat_eq q p && (nat_eq q 0 || not (nat_eq (q - 1) p))) ≡ nat_eq q p
begins_alone q p = grind arith

ends_alone : (q p : ℕ) → (nat_eq q p && not (nat_eq (q + 1) p)) ≡ nat_eq q p
ends_alone q p = grind arith

pub canonical_list-one : (X p : ℕ) → p < 64 → ((q : ℕ) → has X q ≡ nat_eq q p) → canonical_list X ≡ canonical_number p
canonical_list-one X p below one =
    let starts = passing_alone (begins_run X) p 64 (λ q. rw (one q, one (q - 1)) (begins_alone q p)) below in
    let ends = passing_alone (ends_run X) p 64 (λ q. rw (one q, one (q + 1)) (ends_alone q p)) below in
    rw (starts, ends, eq-eqb p p refl) refl

pub canonical_list-empty : canonical_list empty ≡ []
canonical_list-empty =
    let starts = passing_none (begins_run empty) (λ q. rw (has-zero q) refl) 64 in rw starts refl
