-- The processors to which a chain has come before a place.
use Rattle.std.proofs.Common.{◌≡◌, ℕ, ◌+◌, ◌||◌, List, get_or, Some, nat_eq, sym, ap, ◌∙◌, inl, inr, IsTrue, ◌↔◌, arith, eq-eqb, eqb-true}
use Rattle.std.specs.Prelude.{slice_get}
use Rattle.std.proofs.lemmas.Bool.{cases_lt, or_cases, or_left, or_right, true≢false}
use Rattle.std.proofs.lemmas.Option.{get_or_from_slice_get}
use Rattle.affinity_mask.specs.ProcSet.{has, empty}
use Rattle.affinity_mask.proofs.Sets.{has-zero}
use Rattle.reach_certificate.specs.Judging.{ComesBefore}

-- none before the first place
pub seen_none : (chain : List ℕ) (X : ℕ) → X ≡ empty → (q : ℕ) → IsTrue (has X q) ↔ ComesBefore chain 0 q
seen_none chain X none q = (
  (λ h. absurd (true≢false (sym h ∙ ap (λ (Y : ℕ). has Y q) none ∙ has-zero q))),
  (λ comes. absurd (let lt = comes.1 in omega arith)),
)

-- and one more at each place
pub seen_more : (chain : List ℕ) (i x X Y : ℕ) → slice_get chain i ≡ Some x → ((q : ℕ) → has Y q ≡ (has X q || nat_eq q x))
    → ((q : ℕ) → IsTrue (has X q) ↔ ComesBefore chain i q) → (q : ℕ) → IsTrue (has Y q) ↔ ComesBefore chain (i + 1) q
seen_more chain i x X Y at added seen q = (to, from)
  where
    here : get_or chain i 0 ≡ x
    here = get_or_from_slice_get chain i x 0 at

    to : IsTrue (has Y q) → ComesBefore chain (i + 1) q
    to h = elim (or_cases (has X q) (nat_eq q x) (sym (added q) ∙ h)) [
      | inl before ↦ (let comes = (seen q).0 before in (comes.0, (let lt = comes.1 in omega arith), comes.2))
      | inr it ↦ (i, omega arith, here ∙ sym (eqb-true q x it))
    ]

    from : ComesBefore chain (i + 1) q → IsTrue (has Y q)
    from comes = elim (cases_lt comes.0 i) [
      | inl lt ↦ added q ∙ or_left (has X q) (nat_eq q x) ((seen q).1 (comes.0, lt, comes.2))
      | inr ge ↦
          let le = comes.1 in
          let same : comes.0 ≡ i = omega arith in
          added q ∙ or_right (has X q) (nat_eq q x) (eq-eqb q x (sym comes.2 ∙ ap (λ (n : ℕ). get_or chain n 0) same ∙ here))
    ]
