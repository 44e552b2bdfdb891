-- A guest who would start and be displaced at once is left out: the chains lead to the same occupants without it. Any other occupant
-- that is passed on along a chain, but for that of the last processor, is on some processor then.
use Rattle.std.proofs.Common.{◌≡◌, ◌≢◌, ℕ, zero, suc, ◌+◌, ◌-◌, ◌<◌, ◌⊎◌, List, [], ◌∷◌, length, get_or, set, Option, Some, None, refl, sym}
use Rattle.std.proofs.Common.{subst, ◌∙◌, inl, inr, arith, eq-eqb, ne_eqb, get_or-set_other, length-set}
use Rattle.std.proofs.lemmas.Bool.{cases_eq}
use Rattle.strong_apa.specs.Chain.{IsSimple}
use Rattle.strong_apa.proofs.Simple.{IsSimple-head, IsSimple-tail}
use Rattle.live_core.specs.Moves.{occupant_at, IsNowhere}
use Rattle.live_core.specs.MoveData.{PassesOn, PassesOnTwice, IsOnce, occupant_passed, last_of, guest_who_stays}
use Rattle.live_core.proofs.Replaying.{occupant-set_none, None≢Some, there_before}
use Rattle.live_core.proofs.PassingOn.{passed-first, passed-later, passed-outside, passed-without_last, CanPassOn-without_last}
use Rattle.live_core.proofs.PassingOn.{passes_nothing}

-- the first chain without its guest
passes_without_guest : (on : List (Option ℕ)) (guest : Option ℕ) (p : ℕ) (rest : List ℕ) (between : List (Option ℕ))
    → PassesOn on guest (p ∷ rest) between → PassesOn on None (p ∷ rest) (set between p None)
passes_without_guest on guest p rest between passes = record {
  can = passes.can;
  nowhere = λ some t e. absurd (None≢Some t e);
  fits = passes.fits;
  count = length-set between p None ∙ passes.count;
  passed = λ q lt. elim (cases_eq q p) [
    | inl same ↦ rw same (occupant-set_none between p ∙ sym (passed-first on None p rest))
    | inr ne ↦ get_or-set_other between p q None None ne ∙ passes.passed q lt ∙ passed-later on guest p rest q ne
        ∙ sym (passed-later on None p rest q ne)
  ];
}

-- the second chain, which ends where the guest would be
passes_over_nobody : (between : List (Option ℕ)) (t p q : ℕ) (more : List ℕ) (after : List (Option ℕ)) → p ≡ last_of (q ∷ more)
    → PassesOn between (Some t) (q ∷ more) after → PassesOn (set between p None) (Some t) (q ∷ more) after
passes_over_nobody between t p q more after same passes = record {
  can = CanPassOn-without_last between p (q ∷ more) passes.can (sym same);
  nowhere = λ some u e r there. passes.nowhere some u e r (there_before between p r u there);
  fits = passes.fits;
  count = passes.count ∙ sym (length-set between p None);
  passed = λ r lt.
      passes.passed r (subst (λ (n : ℕ). r < n) (length-set between p None) lt)
      ∙ sym (passed-without_last between p (length (q ∷ more) - 1) (q ∷ more) passes.can.simple (omega arith) (sym same) (Some t) r);
}

pub stays_out : (on : List (Option ℕ)) (guest : Option ℕ) (one : List ℕ) (t : ℕ) (two : List ℕ) (after : List (Option ℕ))
    → PassesOnTwice on guest one (Some t) two after → PassesOnTwice on (guest_who_stays guest one two) one (Some t) two after
stays_out on guest [] t two after twice = twice
stays_out on guest (p ∷ rest) t [] after twice = twice
stays_out on guest (p ∷ rest) t (q ∷ more) after twice = elim (cases_eq p (last_of (q ∷ more))) [
  | inl same ↦ rw (eq-eqb p (last_of (q ∷ more)) same) (
    set twice.0 p None,
    passes_without_guest on guest p rest twice.0 twice.1,
    passes_over_nobody twice.0 t p q more after same twice.2,
  )
  | inr ne ↦ rw (ne_eqb p (last_of (q ∷ more)) ne) twice
]

-- whoever is on a processor that is not the last of the chain is on some processor then
kept_but_last : (on : List (Option ℕ)) (guest : Option ℕ) (last n : ℕ) (chain : List ℕ) (p u : ℕ) → IsOnce on → IsSimple chain
    → ((i : ℕ) → i < length chain → get_or chain i 0 < length on)
    → n + 1 ≡ length chain → get_or chain n 0 ≡ last → p < length on → occupant_at on p ≡ Some u → p ≢ last
    → (r : ℕ) × (r < length on) × (occupant_passed on guest chain r ≡ Some u)
kept_but_last on guest last n [] p u once simple below count ends lt here ne = absurd (omega arith)
kept_but_last on guest last zero (x ∷ []) p u once simple below count ends lt here ne =
    (p, lt, passed-later on guest x [] p (λ e. ne (e ∙ ends)) ∙ here)
kept_but_last on guest last (suc n) (x ∷ []) p u once simple below count ends lt here ne = absurd (omega arith)
kept_but_last on guest last zero (x ∷ y ∷ rest) p u once simple below count ends lt here ne = absurd (omega arith)
kept_but_last on guest last (suc n) (x ∷ y ∷ rest) p u once simple below count ends lt here ne =
    go (cases_eq p x) (kept_but_last on (occupant_at on x) last n (y ∷ rest) p u once (IsSimple-tail x (y ∷ rest) simple)
    (λ i fits. below (suc i) (omega arith)) (omega arith) ends lt here ne)
  where
    apart : y ≢ x
    apart e = IsSimple-head x (y ∷ rest) simple 0 (omega arith) e

    go : (p ≡ x) ⊎ (p ≡ x → ⊥) → (r : ℕ) × (r < length on) × (occupant_passed on (occupant_at on x) (y ∷ rest) r ≡ Some u)
        → (r : ℕ) × (r < length on) × (occupant_passed on guest (x ∷ y ∷ rest) r ≡ Some u)
    go (inl same) later = (
      y,
      below 1 (omega arith),
      passed-later on guest x (y ∷ rest) y apart ∙ passed-first on (occupant_at on x) y rest
          ∙ subst (λ (q : ℕ). occupant_at on q ≡ Some u) same here,
    )
    go (inr other) later = elim (cases_eq later.0 x) [
      | inl same ↦
          let out = passed-outside on (occupant_at on x) (y ∷ rest) x (λ i fits. IsSimple-head x (y ∷ rest) simple i fits) in
          absurd (other (once p x u here (sym out ∙ subst (λ (q : ℕ). occupant_passed on (occupant_at on x) (y ∷ rest) q ≡ Some u)
          same later.2)))
      | inr ne ↦ (later.0, later.1, passed-later on guest x (y ∷ rest) later.0 ne ∙ later.2)
    ]

-- the guest who stays is on some processor at the end, where it has one to start on
pub guest_is_somewhere : (on : List (Option ℕ)) (guest : Option ℕ) (p : ℕ) (rest : List ℕ) (t : ℕ) (two : List ℕ)
    (between after : List (Option ℕ)) (u : ℕ) → IsOnce between → guest_who_stays guest (p ∷ rest) two ≡ Some u
    → PassesOn on (guest_who_stays guest (p ∷ rest) two) (p ∷ rest) between → PassesOn between (Some t) two after → IsNowhere after u → ⊥
guest_is_somewhere on guest p rest t [] between after u once stays one two nowhere =
    nowhere p (subst (λ (o : List (Option ℕ)). occupant_at o p ≡ Some u) (passes_nothing between (Some t) [] after two refl)
    (one.passed p (one.can.below 0 (omega arith)) ∙ passed-first on guest p rest ∙ stays))
guest_is_somewhere on guest p rest t (q ∷ more) between after u once stays one two nowhere =
    let g = guest_who_stays guest (p ∷ rest) (q ∷ more) in
    let lt : p < length between = rw one.count (one.can.below 0 (omega arith)) in
    let here : occupant_at between p ≡ Some u = one.passed p (one.can.below 0 (omega arith)) ∙ passed-first on g p rest ∙ stays in
    let ne : p ≢ last_of (q ∷ more) = λ same. None≢Some u (sym (out same) ∙ stays) in
    let there = kept_but_last between (Some t) (last_of (q ∷ more)) (length (q ∷ more) - 1) (q ∷ more) p u once two.can.simple two.can.below
    (omega arith) refl lt here ne in
    nowhere there.0 (two.passed there.0 there.1 ∙ there.2)
  where
    out : p ≡ last_of (q ∷ more) → guest_who_stays guest (p ∷ rest) (q ∷ more) ≡ None
    out same = rw (eq-eqb p (last_of (q ∷ more)) same) refl
