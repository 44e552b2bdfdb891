-- The state in which some tasks are ready and some of them stand where a placement puts them. Where those are the best set of
-- the ready ones, each waiting task has a certificate.
use Rattle.std.proofs.Common.{◌≡◌, ℕ, zero, suc, ◌<◌, Bool, true, false, ◌&&◌, ◌==◌, map, Option, Some, None, if◌then◌else◌, refl, sym, ap}
use Rattle.std.proofs.Common.{◌∙◌, subst, inl, inr, IsTrue, arith, eq-eqb, eqb-true}
use Rattle.std.specs.List.{range_with_len}
use Rattle.std.proofs.lemmas.Bool.{cases_Bool, cases_eq, cases_lt, true≢false, and_from, and_parts}
use Rattle.std.proofs.lemmas.List.{get_or_past}
use Rattle.std.proofs.lemmas.List.FromFn.{get_or-map-range_with_len, length-map-range_with_len}
use Rattle.affinity_mask.specs.ProcSet.{has}
use Rattle.strong_apa.specs.State.{State, IsState, task_count, task_on, is_ready, is_linked, effective_mask}
use Rattle.strong_apa.specs.Placement.{TaskTest, IsPlacement, IsBest}
use Rattle.strong_apa.proofs.Linked.{is_linked-from_on, not_linked-from_on}
use Rattle.strong_apa.proofs.Masks.{effective_mask_below}
use Rattle.strong_apa.specs.Certified.{HasCertificates}
use Rattle.strong_apa.specs.CertificateLaws.{LinkedIsBest}
use Rattle.strong_apa.proofs.SameBest.{IsBest-same}
use Rattle.scheduling_laws.proofs.Faces.{best_is_certified}

-- who is there, where somebody is
abbrev pub who : Option ℕ → ℕ
who None = 0
who (Some u) = u

-- the last number below n that passes a test
abbrev pub last_below : (ℕ → Bool) → ℕ → Option ℕ
last_below test zero = None
last_below test (suc n) = if test n then Some n else last_below test n

last_below-is : (test : ℕ → Bool) (n x : ℕ) → last_below test n ≡ Some x → (x < n) × (test x ≡ true)
last_below-is test zero x e = absurd (cc)
last_below-is test (suc n) x e = by (test n) refl (last_below-is test n x) e
  where
    by : (b : Bool) → test n ≡ b → (last_below test n ≡ Some x → (x < n) × (test x ≡ true)) → (if b then Some n else last_below test n)
        ≡ Some x → (x < suc n) × (test x ≡ true)
    by true here before e = (let same : n ≡ x = cc in (omega arith, ap test (sym same) ∙ here))
    by false here before e = (let found = before e in ((let lt = found.0 in omega arith), found.1))

last_below-only : (test : ℕ → Bool) (n x : ℕ) → x < n → test x ≡ true → ((y : ℕ) → test y ≡ true → y ≡ x) → last_below test n ≡ Some x
last_below-only test zero x lt here only = absurd (omega arith)
last_below-only test (suc n) x lt here only = elim (cases_Bool (test n)) [
  | inl last ↦ rw last (ap (λ (y : ℕ). Some y) (only n last))
  | inr not_last ↦ rw not_last (last_below-only test n x (elim (cases_eq x n) [
    | inl e ↦ absurd (true≢false (sym here ∙ ap test e ∙ not_last))
    | inr ne ↦ omega arith
  ]) here only)
]

module _ (s : State) (ok : IsState s) (R : TaskTest) (number : (t : ℕ) → R t ≡ true → t < task_count s) (best : TaskTest)
    (is_best : IsBest s R best) where
  abbrev pub place : ℕ → ℕ
  place t = is_best.placeable.0 t

  placed : IsPlacement s best place
  placed = record { allowed = is_best.placeable.1.allowed; apart = is_best.placeable.1.apart }

  -- whether t stands on p
  abbrev stands : ℕ → ℕ → Bool
  stands p t = best t && (place t == p)

  abbrev occupant : ℕ → Option ℕ
  occupant p = last_below (stands p) (task_count s)

  abbrev pub placed_state : State
  placed_state = record s { ready = map R (range_with_len 0 (task_count s)); on = map occupant (range_with_len 0 s.processors) }

  best_number : (t : ℕ) → best t ≡ true → t < task_count s
  best_number t h = number t (is_best.subset t h)

  below : (t : ℕ) → best t ≡ true → place t < s.processors
  below t h = effective_mask_below s ok t (place t) (placed.allowed t h)

  -- ---- who is ready and who is where
  pub ready_is : (t : ℕ) → is_ready placed_state t ≡ R t
  ready_is t = elim (cases_lt t (task_count s)) [
    | inl lt ↦ get_or-map-range_with_len R 0 (task_count s) t t false lt (omega arith)
    | inr ge ↦ get_or_past (map R (range_with_len 0 (task_count s))) t false (rw (length-map-range_with_len R 0 (task_count s)) ge)
        ∙ sym (elim (cases_Bool (R t)) [
          | inl member ↦ absurd (let lt = number t member in omega arith)
          | inr out ↦ out
        ])
  ]

  pub on_is : (p t : ℕ) → task_on placed_state p ≡ Some t → (best t ≡ true) × (place t ≡ p)
  on_is p t e = elim (cases_lt p s.processors) [
    | inl lt ↦ (
        let found = last_below-is (stands p) (task_count s) t
        (sym (get_or-map-range_with_len occupant 0 s.processors p p None lt (omega arith)) ∙ e) in
        let parts = and_parts (best t) _ found.1 in
        (parts.0, eqb-true (place t) p parts.1))
    | inr ge ↦ absurd (let past = get_or_past (map occupant (range_with_len 0 s.processors)) p None
        (rw (length-map-range_with_len occupant 0 s.processors) ge) in cc)
  ]

  pub on_place : (t : ℕ) → best t ≡ true → task_on placed_state (place t) ≡ Some t
  on_place t h =
      get_or-map-range_with_len occupant 0 s.processors (place t) (place t) None (below t h) (omega arith)
      ∙ last_below-only (stands (place t)) (task_count s) t (best_number t h) (and_from _ _ h (eq-eqb (place t) (place t) refl))
      (λ u there. let parts = and_parts (best u) _ there in placed.apart u t parts.0 h (eqb-true (place u) (place t) parts.1))

  pub linked_is : (t : ℕ) → is_linked placed_state t ≡ best t
  linked_is t = elim (cases_Bool (best t)) [
    | inl member ↦ is_linked-from_on placed_state (place t) t (on_place t member) ∙ sym member
    | inr out ↦ not_linked-from_on placed_state t (λ p on. true≢false (sym (on_is p t on).0 ∙ out)) ∙ sym out
  ]

  pub placed_ok : IsState placed_state
  placed_ok = record {
    processors = ok.processors;
    count = ok.count;
    masks_count = ok.masks_count;
    ready_count = length-map-range_with_len R 0 (task_count s);
    on_count = length-map-range_with_len occupant 0 s.processors;
    online = ok.online;
    masks = ok.masks;
    distinct = ok.distinct;
    allowed = λ p t e. let at = on_is p t e in subst (λ (q : ℕ). IsTrue (has (effective_mask s t) q)) at.1 (placed.allowed t at.0);
    once = λ p q t e f. sym (on_is p t e).1 ∙ (on_is q t f).1;
    linked_ready = λ p t e. ready_is t ∙ is_best.subset t (on_is p t e).0;
  }

  -- ---- its linked tasks are the best set, and so it has certificates
  pub placed_is_best : LinkedIsBest placed_state
  placed_is_best = IsBest-same placed_state s (record { processors = refl; priorities = refl }) (record { masks = refl; online = refl }) R
      (is_ready placed_state) best (is_linked placed_state) (λ t. sym (ready_is t)) (λ t. sym (linked_is t)) is_best

  pub placed_certificates : HasCertificates placed_state
  placed_certificates = (best_is_certified placed_state placed_ok).0 placed_is_best
