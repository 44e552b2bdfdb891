-- Occupants that are passed on along a chain, from its end on.
use Rattle.std.proofs.Common.{◌≡◌, ◌≢◌, ℕ, zero, suc, ◌+◌, ◌-◌, ◌<◌, List, [], ◌∷◌, ◌++◌, length, get_or, set, drop, Option, Some, None}
use Rattle.std.proofs.Common.{refl, sym, ap, subst, ◌∙◌, inl, inr, ◌⊎◌, arith, eq-eqb, ne_eqb, get_or-set_same, get_or-set_other}
use Rattle.std.proofs.Common.{length-set, drop-cons}
use Rattle.std.proofs.lemmas.Bool.{cases_eq}
use Rattle.std.proofs.lemmas.List.{drop_all, ext_get_or, get_or-drop, length-drop}
use Rattle.strong_apa.specs.Chain.{IsSimple}
use Rattle.strong_apa.proofs.Simple.{IsSimple-head, IsSimple-tail}
use Rattle.live_core.specs.Moves.{occupant_at, IsNowhere}
use Rattle.live_core.specs.MoveData.{CanPassOn, PassesOn, occupant_passed, shifts_along, shift_of}

-- at the first processor of the chain, and at another one
pub passed-first : (on : List (Option ℕ)) (guest : Option ℕ) (x : ℕ) (rest : List ℕ) → occupant_passed on guest (x ∷ rest) x ≡ guest
passed-first on guest x rest = rw (eq-eqb x x refl) refl

pub passed-later : (on : List (Option ℕ)) (guest : Option ℕ) (x : ℕ) (rest : List ℕ) (p : ℕ) → p ≢ x → occupant_passed on guest (x ∷ rest) p
    ≡ occupant_passed on (occupant_at on x) rest p
passed-later on guest x rest p ne = rw (ne_eqb p x ne) refl

-- whoever is on p then is the guest, or was on some processor
pub passed-from : (on : List (Option ℕ)) (guest : Option ℕ) (chain : List ℕ) (p t : ℕ) → occupant_passed on guest chain p ≡ Some t
    → (guest ≡ Some t) ⊎ ((y : ℕ) × (occupant_at on y ≡ Some t))
passed-from on guest [] p t e = inr (p, e)
passed-from on guest (x ∷ rest) p t e = go (cases_eq p x) (passed-from on (occupant_at on x) rest p t)
  where
    go : (p ≡ x) ⊎ (p ≡ x → ⊥) → (occupant_passed on (occupant_at on x) rest p ≡ Some t
        → (occupant_at on x ≡ Some t) ⊎ ((y : ℕ) × (occupant_at on y ≡ Some t)))
        → (guest ≡ Some t) ⊎ ((y : ℕ) × (occupant_at on y ≡ Some t))
    go (inl same) later = inl (sym (passed-first on guest x rest) ∙ rw same at e)
    go (inr ne) later = elim (later (sym (passed-later on guest x rest p ne) ∙ e)) [
      | inl here ↦ inr (x, here)
      | inr there ↦ inr there
    ]

-- outside of the chain all stays
pub passed-outside : (on : List (Option ℕ)) (guest : Option ℕ) (chain : List ℕ) (p : ℕ)
    → ((i : ℕ) → i < length chain → get_or chain i 0 ≢ p) → occupant_passed on guest chain p ≡ occupant_at on p
passed-outside on guest [] p out = refl
passed-outside on guest (x ∷ rest) p out =
    passed-later on guest x rest p (λ e. out 0 (omega arith) (sym e))
    ∙ passed-outside on (occupant_at on x) rest p (λ i fits. out (suc i) (omega arith))

-- one more occupant goes on the next processor
pub one_more : (on now : List (Option ℕ)) (from to : ℕ) (rest : List ℕ) → from ≢ to → ((i : ℕ) → i < length rest → get_or rest i 0 ≢ from)
    → from < length now → to < length now → ((p : ℕ) → occupant_at now p ≡ occupant_passed on None (to ∷ rest) p)
    → (p : ℕ) → occupant_at (set (set now from None) to (occupant_at now from)) p ≡ occupant_passed on None (from ∷ to ∷ rest) p
one_more on now from to rest apart out from_fits to_fits before p = go (cases_eq p to) (cases_eq p from)
  where
    moved : occupant_at now from ≡ occupant_at on from
    moved = before from ∙ passed-later on None to rest from apart ∙ passed-outside on (occupant_at on to) rest from out

    go : (p ≡ to) ⊎ (p ≡ to → ⊥) → (p ≡ from) ⊎ (p ≡ from → ⊥) → occupant_at (set (set now from None) to (occupant_at now from)) p
        ≡ occupant_passed on None (from ∷ to ∷ rest) p
    go (inl there) here =
        rw there (get_or-set_same (set now from None) to (occupant_at now from) None (rw (length-set now from None) to_fits)
        ∙ moved ∙ sym (passed-first on (occupant_at on from) to rest) ∙ sym (passed-later on None from (to ∷ rest) to (λ e. apart (sym e))))
    go (inr elsewhere) (inl here) =
        get_or-set_other (set now from None) to p (occupant_at now from) None elsewhere
        ∙ rw here (get_or-set_same now from None None from_fits ∙ sym (passed-first on None from (to ∷ rest)))
    go (inr elsewhere) (inr apart_too) =
        get_or-set_other (set now from None) to p (occupant_at now from) None elsewhere ∙ get_or-set_other now from p None None apart_too
        ∙ before p ∙ passed-later on None to rest p elsewhere
        ∙ sym (passed-later on None from (to ∷ rest) p apart_too ∙ passed-later on (occupant_at on from) to rest p elsewhere)

-- the occupant of the last processor makes no difference
pub passed-without_last : (on : List (Option ℕ)) (last n : ℕ) (chain : List ℕ) → IsSimple chain → n + 1 ≡ length chain
    → get_or chain n 0 ≡ last → (guest : Option ℕ) (p : ℕ)
    → occupant_passed (set on last None) guest chain p ≡ occupant_passed on guest chain p
passed-without_last on last n [] simple count ends guest p = absurd (omega arith)
passed-without_last on last zero (x ∷ []) simple count ends guest p = elim (cases_eq p x) [
  | inl same ↦ rw same (passed-first (set on last None) guest x [] ∙ sym (passed-first on guest x []))
  | inr ne ↦ passed-later (set on last None) guest x [] p ne ∙ get_or-set_other on last p None None (λ e. ne (e ∙ sym ends))
      ∙ sym (passed-later on guest x [] p ne)
]
passed-without_last on last (suc n) (x ∷ []) simple count ends guest p = absurd (omega arith)
passed-without_last on last zero (x ∷ y ∷ rest) simple count ends guest p = absurd (omega arith)
passed-without_last on last (suc n) (x ∷ y ∷ rest) simple count ends guest p =
    go (cases_eq p x) (passed-without_last on last n (y ∷ rest) (IsSimple-tail x (y ∷ rest) simple) (omega arith) ends (occupant_at on x) p)
  where
    apart : x ≢ last
    apart e = IsSimple-head x (y ∷ rest) simple n (omega arith) (ends ∙ sym e)

    go : (p ≡ x) ⊎ (p ≡ x → ⊥) → occupant_passed (set on last None) (occupant_at on x) (y ∷ rest) p
        ≡ occupant_passed on (occupant_at on x) (y ∷ rest) p → occupant_passed (set on last None) guest (x ∷ y ∷ rest) p
        ≡ occupant_passed on guest (x ∷ y ∷ rest) p
    go (inl same) later = rw same (passed-first (set on last None) guest x (y ∷ rest) ∙ sym (passed-first on guest x (y ∷ rest)))
    go (inr ne) later =
        passed-later (set on last None) guest x (y ∷ rest) p ne
        ∙ ap (λ (o : Option ℕ). occupant_passed (set on last None) o (y ∷ rest) p) (get_or-set_other on last x None None apart)
        ∙ later ∙ sym (passed-later on guest x (y ∷ rest) p ne)

-- and the others can be passed on where it has none
pub CanPassOn-without_last : (on : List (Option ℕ)) (last : ℕ) (chain : List ℕ) → CanPassOn on chain → get_or chain (length chain - 1) 0
    ≡ last → CanPassOn (set on last None) chain
CanPassOn-without_last on last chain can ends = record {
  simple = can.simple;
  below = λ i fits. rw (length-set on last None) (can.below i fits);
  somebody = λ i fits.
      let u = can.somebody i fits in (
        u.0,
        get_or-set_other on last (get_or chain i 0) None None
            (λ e. can.simple i (length chain - 1) 0 (omega arith) (omega arith) (e ∙ sym ends)) ∙ u.1,
      );
}

-- the guest goes on the first processor
pub guest_comes : (on now : List (Option ℕ)) (guest : Option ℕ) (x : ℕ) (rest : List ℕ) → x < length now
    → ((p : ℕ) → occupant_at now p ≡ occupant_passed on None (x ∷ rest) p)
    → (p : ℕ) → occupant_at (set now x guest) p ≡ occupant_passed on guest (x ∷ rest) p
guest_comes on now guest x rest fits before p = elim (cases_eq p x) [
  | inl same ↦ rw same (get_or-set_same now x guest None fits ∙ sym (passed-first on guest x rest))
  | inr ne ↦ get_or-set_other now x p guest None ne ∙ before p ∙ passed-later on None x rest p ne ∙ sym (passed-later on guest x rest p ne)
]

-- ---- the loop
-- before the first turn: the last processor has nobody
pub advance_begins : (on : List (Option ℕ)) (chain : List ℕ) (len : ℕ) → len ≡ length chain → 0 < len
    → occupant_at on (get_or chain (len - 1) 0) ≡ None → (p : ℕ) → occupant_at on p ≡ occupant_passed on None (drop (len - 1) chain) p
advance_begins on chain len is some nobody p =
    rw (drop-cons chain (len - 1) 0 (omega arith), drop_all (suc (len - 1)) chain (omega arith))
    (elim (cases_eq p (get_or chain (len - 1) 0)) [
      | inl same ↦ rw same (nobody ∙ sym (passed-first on None (get_or chain (len - 1) 0) []))
      | inr ne ↦ sym (passed-later on None (get_or chain (len - 1) 0) [] p ne)
    ])

-- a turn, at which the occupant of the processor at place k goes to the next one
pub record IsTurn (on now : List (Option ℕ)) (chain : List ℕ) (k next : ℕ) : Type 0 where
  pub somebody : (t : ℕ) × (occupant_at now (get_or chain k 0) ≡ Some t)
  pub nobody : occupant_at now (get_or chain next 0) ≡ None
  pub listed : shifts_along on (drop next chain) ++ shift_of (occupant_at now (get_or chain k 0)) (get_or chain k 0) (get_or chain next 0)
      ≡ shifts_along on (drop k chain)
  pub after : (p : ℕ) → occupant_at (set (set now (get_or chain k 0) None) (get_or chain next 0) (occupant_at now (get_or chain k 0))) p
      ≡ occupant_passed on None (drop k chain) p

turn_at : (on now : List (Option ℕ)) (chain : List ℕ) (k : ℕ) → CanPassOn on chain → suc k < length chain → length now ≡ length on
    → ((p : ℕ) → occupant_at now p ≡ occupant_passed on None (drop (suc k) chain) p) → IsTurn on now chain k (suc k)
turn_at on now chain k can fits same before =
    let from = get_or chain k 0 in
    let to = get_or chain (suc k) 0 in
    let rest = drop (suc (suc k)) chain in
    let here = can.somebody k (omega arith) in
    let apart : from ≢ to = can.simple k (suc k) 0 (omega arith) fits in
    let out : (i : ℕ) → i < length rest → get_or rest i 0 ≢ from = λ i below e. can.simple k (suc (suc k) + i) 0 (omega arith)
    (omega (arith, length-drop (suc (suc k)) chain)) (sym e ∙ get_or-drop (suc (suc k)) chain i 0) in
    let e : drop (suc k) chain ≡ to ∷ rest = drop-cons chain (suc k) 0 fits in
    let then : (p : ℕ) → occupant_at now p ≡ occupant_passed on None (to ∷ rest) p = λ p. before p
    ∙ ap (λ (c : List ℕ). occupant_passed on None c p) e in
    record {
      somebody =
          (here.0, then from ∙ passed-later on None to rest from apart ∙ passed-outside on (occupant_at on to) rest from out ∙ here.1);
      nobody = then to ∙ passed-first on None to rest;
      listed =
          ap (λ (o : Option ℕ). shifts_along on (drop (suc k) chain) ++ shift_of o from to)
          (then from ∙ passed-later on None to rest from apart ∙ passed-outside on (occupant_at on to) rest from out)
          ∙ ap (λ (c : List ℕ). shifts_along on c ++ shift_of (occupant_at on from) from to) e
          ∙ sym (ap (λ (c : List ℕ). shifts_along on c) (drop-cons chain k 0 (omega arith) ∙ ap (λ (c : List ℕ). from ∷ c) e));
      after = λ p.
          one_more on now from to rest apart out (rw same (can.below k (omega arith))) (rw same (can.below (suc k) fits)) then p
          ∙ sym (ap (λ (c : List ℕ). occupant_passed on None c p) (drop-cons chain k 0 (omega arith) ∙ ap (λ (c : List ℕ). from ∷ c) e));
    }

pub advance_turn : (on now : List (Option ℕ)) (chain : List ℕ) (k next : ℕ) → next ≡ suc k → CanPassOn on chain → next < length chain
    → length now ≡ length on
    → ((p : ℕ) → occupant_at now p ≡ occupant_passed on None (drop next chain) p) → IsTurn on now chain k next
advance_turn on now chain k next e can fits same before =
    rw e (turn_at on now chain k can (subst (λ (n : ℕ). n < length chain) e fits) same
    (subst (λ (n : ℕ). (p : ℕ) → occupant_at now p ≡ occupant_passed on None (drop n chain) p) e before))

-- ---- the whole
-- what is reached is what the chain leads to
pub passes_to : (on : List (Option ℕ)) (guest : Option ℕ) (chain : List ℕ) (after now : List (Option ℕ)) → PassesOn on guest chain after
    → length now ≡ length on → ((p : ℕ) → occupant_at now p ≡ occupant_passed on guest chain p) → now ≡ after
passes_to on guest chain after now passes same reached =
    ext_get_or None now after (same ∙ sym passes.count) (λ p fits. reached p ∙ sym (passes.passed p (rw (← same) fits)))

-- an empty chain leads nowhere
pub passes_nothing : (on : List (Option ℕ)) (guest : Option ℕ) (chain : List ℕ) (after : List (Option ℕ)) → PassesOn on guest chain after
    → length chain ≡ 0 → on ≡ after
passes_nothing on guest [] after passes none = passes_to on guest [] after on passes refl (λ p. refl)
passes_nothing on guest (x ∷ rest) after passes none = absurd (omega arith)

-- the places after a stop at the last processor, and after the turns
module _ (on stopped now : List (Option ℕ)) (chain : List ℕ) (some : 0 < length chain) (can : CanPassOn on chain)
    (stop : stopped ≡ set on (get_or chain (length chain - 1) 0) None) (turns : (p : ℕ)
    → occupant_at now p ≡ occupant_passed stopped None chain p) where
  pub turned : (p : ℕ) → occupant_at now p ≡ occupant_passed on None chain p
  turned p =
      turns p ∙ ap (λ (o : List (Option ℕ)). occupant_passed o None chain p) stop
      ∙ passed-without_last on (get_or chain (length chain - 1) 0) (length chain - 1) chain can.simple (omega arith) refl None p

  pub first_is_free : occupant_at now (get_or chain 0 0) ≡ None
  first_is_free = turned (get_or chain 0 0) ∙ at_first chain some
    where
      at_first : (chain : List ℕ) → 0 < length chain → occupant_passed on None chain (get_or chain 0 0) ≡ None
      at_first [] some = absurd (omega arith)
      at_first (x ∷ rest) some = passed-first on None x rest

  -- a task that was on no processor is on none then
  pub nowhere_yet : (t : ℕ) → IsNowhere on t → IsNowhere now t
  nowhere_yet t nowhere p there = elim (passed-from on None chain p t (sym (turned p) ∙ there)) [
    | inl nobody ↦ cc
    | inr somewhere ↦ nowhere somewhere.0 somewhere.1
  ]

  -- the guest comes
  pub guest_arrives : length now ≡ length on → (guest : Option ℕ) (p : ℕ) → occupant_at (set now (get_or chain 0 0) guest) p
      ≡ occupant_passed on guest chain p
  guest_arrives same guest p = arrives chain some can turned
    where
      arrives : (chain : List ℕ) → 0 < length chain → CanPassOn on chain → ((q : ℕ) → occupant_at now q ≡ occupant_passed on None chain q)
          → occupant_at (set now (get_or chain 0 0) guest) p ≡ occupant_passed on guest chain p
      arrives [] some can turned = absurd (omega arith)
      arrives (x ∷ rest) some can turned = guest_comes on now guest x rest (rw same (can.below 0 (omega arith))) turned p
