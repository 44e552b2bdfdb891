-- The table of the holders is made anew: it is cleared, and then each linked task takes the place where it is seen, if the holder is less
-- urgent.
use Rattle.std.proofs.Common.{◌≡◌, ◌≢◌, ℕ, ◌+◌, ◌<◌, ◌≤◌, List, [], ◌∷◌, Option, Some, None, refl, sym, ap, ◌∙◌, subst, inl, inr, arith}
use Rattle.std.proofs.lemmas.Bool.{cases_eq, cases_lt}
use Rattle.std.proofs.lemmas.Option.{same_Some}
use Rattle.std.proofs.lemmas.List.FromFn.{get_or-map-range_with_len}
use Rattle.strong_apa.specs.State.{State, IsState, IsWaiting, task_on, is_ready, priority_of, state_with_idle}
use Rattle.strong_apa.specs.Chain.{IsSimple, occupant_after_shift, state_after_shift}
use Rattle.strong_apa.proofs.Linked.{place_in, task_on-linked, occupied_number, not_linked-from_on}
use Rattle.strong_apa.proofs.Idling.{task_on-state_with_idle}
use Rattle.strong_apa.proofs.Shifts.{occupant-first, occupant-later, task_on-state_after_shift}
use Rattle.live_core.specs.Seen.{seen_at, Claims, IsTable, IsFresh, IsTaken}

-- ---- the table is cleared
pub record IsClearedBelow (old table : State) (p : ℕ) : Type 0 where
  pub same : table ≡ record old { on = table.on }
  pub nobody : (q u : ℕ) → q < p → task_on table q ≡ Some u → ⊥

pub cleared_first : (old : State) → IsClearedBelow old old 0
cleared_first old = record { same = refl; nobody = λ q u lt on. absurd (omega arith) }

pub cleared_same : (old table : State) (p : ℕ) → ((u : ℕ) → task_on table p ≡ Some u → ⊥) → IsClearedBelow old table p
    → IsClearedBelow old table (p + 1)
cleared_same old table p none below = record {
  same = below.same;
  nobody = λ q u lt on. elim (cases_eq q p) [
    | inl same ↦ none u (rw same at on)
    | inr other ↦ below.nobody q u (omega arith) on
  ];
}

pub cleared_more : (old table new : State) (p : ℕ) → new ≡ state_with_idle table p → IsClearedBelow old table p
    → IsClearedBelow old new (p + 1)
cleared_more old table new p idle below = record {
  same = idle ∙ ap (λ (x : State). record x { on = (state_with_idle table p).on }) below.same
      ∙ ap (λ (o : List (Option ℕ)). record old { on = o }) (sym (ap (λ (x : State). x.on) idle));
  nobody = λ q u lt on.
      let before = task_on-state_with_idle table p q u (sym (ap (λ (x : State). task_on x q) idle) ∙ on) in
      let other = before.1 in
      below.nobody q u (omega arith) before.0;
}

none_of : (o : Option ℕ) → ((u : ℕ) → o ≡ Some u → ⊥) → o ≡ None
none_of None nobody = refl
none_of (Some u) nobody = absurd (nobody u refl)

pub cleared_whole : (old table : State) → IsState table → (p : ℕ) → old.processors ≤ p → IsClearedBelow old table p → (q : ℕ)
    → task_on table q ≡ None
cleared_whole old table ok p all below q = none_of (task_on table q)
    (λ u on. let lt = occupied_number table q u ok on in let n = ap (λ (x : State). x.processors) below.same in
    below.nobody q u (omega arith) on)

-- ---- a task takes its place
pub one_is_simple : (q : ℕ) → IsSimple (q ∷ [])
one_is_simple q = λ i j d lt fits. absurd (omega arith)

pub same_after : (s a new : State) (t : ℕ) (chain : List ℕ) → a ≡ record s { on = a.on } → new ≡ state_after_shift a t chain
    → new ≡ record s { on = new.on }
same_after s a new t chain same shifted =
    shifted
    ∙ ap (λ (x : State). record x { on = (state_after_shift a t chain).on }) same
    ∙ ap (λ (o : List (Option ℕ)). record s { on = o }) (sym (ap (λ (x : State). x.on) shifted))

module _ (a : State) (ok : IsState a) (t q : ℕ) (lt : q < a.processors) (new : State) (shifted : new ≡ state_after_shift a t (q ∷ [])) where
  pub on_q : task_on new q ≡ Some t
  on_q = ap (λ (x : State). task_on x q) shifted ∙ get_or-map-range_with_len (occupant_after_shift a (Some t) (q ∷ []))
      0 a.processors q q None lt (omega arith) ∙ occupant-first a (Some t) q []

  on_other : (r : ℕ) → r ≢ q → task_on new r ≡ task_on a r
  on_other r other = elim (cases_lt r a.processors) [
    | inl below ↦ ap (λ (x : State). task_on x r) shifted ∙ get_or-map-range_with_len (occupant_after_shift a (Some t) (q ∷ []))
        0 a.processors r r None below (omega arith) ∙ occupant-later a (Some t) q [] r other
    | inr past ↦
        none_of (task_on new r) (λ u on.
        let e = sym (occupant-later a (Some t) q [] r other)
        ∙ task_on-state_after_shift a t (q ∷ []) r u (sym (ap (λ (x : State). task_on x r) shifted) ∙ on) in
        let below = occupied_number a r u ok e in
        omega arith)
        ∙ sym (none_of (task_on a r) (λ u on. let below = occupied_number a r u ok on in omega arith))
  ]

  pub taken_by : (s : State) → ((u : ℕ) → task_on a q ≡ Some u → priority_of s t ≤ priority_of s u) → IsTaken s a t q new
  taken_by s first = record { holder = t; there = on_q; which = inl refl; urgent = omega arith; before = first; others = on_other }

pub kept_by : (s a : State) (t q : ℕ) → (u : ℕ) × (task_on a q ≡ Some u) × (priority_of s u ≤ priority_of s t) → IsTaken s a t q a
kept_by s a t q held = record {
  holder = held.0;
  there = held.1;
  which = inr held.1;
  urgent = held.2;
  before = λ u on. rw (same_Some held.0 u (sym held.1 ∙ on)) (omega arith);
  others = λ r other. refl;
}

-- ---- the table is filled
pub record IsFilledBelow (s : State) (seen : List (Option ℕ)) (table : State) (p : ℕ) : Type 0 where
  pub same : table ≡ record s { on = table.on }
  pub holds : (q t : ℕ) → task_on table q ≡ Some t → Claims s seen t q × ((r : ℕ) × (r < p) × (task_on s r ≡ Some t))
  pub covers : (r t q : ℕ) → r < p → task_on s r ≡ Some t → Claims s seen t q → (u : ℕ) × (task_on table q ≡ Some u)
      × (priority_of s u ≤ priority_of s t)

pub filled_first : (s table : State) (seen : List (Option ℕ)) → table ≡ record s { on = table.on } → ((q : ℕ) → task_on table q ≡ None)
    → IsFilledBelow s seen table 0
filled_first s table seen same nobody = record {
  same = same;
  holds = λ q t on. absurd (let h : ◌≡◌ {A = Option ℕ} None (Some t) = sym (nobody q) ∙ on in cc);
  covers = λ r t q lt on claims. absurd (omega arith);
}

-- whoever is linked to p claims nothing
pub filled_same : (s table : State) (seen : List (Option ℕ)) (p : ℕ) → ((t q : ℕ) → task_on s p ≡ Some t → Claims s seen t q → ⊥)
    → IsFilledBelow s seen table p → IsFilledBelow s seen table (p + 1)
filled_same s table seen p none below = record {
  same = below.same;
  holds = λ q t on. let before = below.holds q t on in (before.0, (before.1.0, (let l = before.1.1 in omega arith), before.1.2));
  covers = λ r t q lt on claims. elim (cases_eq r p) [
    | inl same ↦ absurd (none t q (rw same at on) claims)
    | inr other ↦ below.covers r t q (omega arith) on claims
  ];
}

-- the task that is linked to p is not in the table yet
pub not_yet : (s table : State) (seen : List (Option ℕ)) (p t : ℕ) → IsState s → task_on s p ≡ Some t → IsFilledBelow s seen table p
    → IsWaiting table t
not_yet s table seen p t ok on below = record {
  ready = ap (λ (x : State). is_ready x t) below.same ∙ ok.linked_ready p t on;
  not_linked = not_linked-from_on table t (λ q there. let before = (below.holds q t there).1 in
      let same = ok.once before.0 p t before.2 on in let lt = before.1 in omega arith);
}

pub filled_more : (s table new : State) (seen : List (Option ℕ)) (p t q : ℕ) → task_on s p ≡ Some t → Claims s seen t q
    → new ≡ record s { on = new.on } → IsTaken s table t q new
    → IsFilledBelow s seen table p → IsFilledBelow s seen new (p + 1)
filled_more s table new seen p t q on claims same taken below = record {
  same = same;
  holds = λ r u there. elim (cases_eq r q) [
    | inl it ↦
        let is_holder : taken.holder ≡ u = same_Some taken.holder u (sym taken.there ∙ rw it at there) in
        elim taken.which [
          | inl is_t ↦ subst (λ (v : ℕ). Claims s seen v r × ((x : ℕ) × (x < p + 1) × (task_on s x ≡ Some v))) (sym is_t ∙ is_holder)
              (subst (λ (x : ℕ). Claims s seen t x) (sym it) claims, (p, (omega arith), on))
          | inr old ↦ later r u (below.holds r u (ap (task_on table) it ∙ old ∙ ap (λ (n : ℕ). Some n) is_holder))
        ]
    | inr other ↦ later r u (below.holds r u (sym (taken.others r other) ∙ there))
  ];
  covers = λ x u r lt there claim. elim (cases_eq x p) [
    | inl is_p ↦
        let is_t : u ≡ t = same_Some u t (sym there ∙ ap (task_on s) is_p ∙ on) in
        let is_q : q ≡ r = same_Some q r (sym claims.there ∙ ap (seen_at seen) (sym is_t) ∙ claim.there) in (
          taken.holder,
          subst (λ (y : ℕ). task_on new y ≡ Some taken.holder) is_q taken.there,
          subst (λ (v : ℕ). priority_of s taken.holder ≤ priority_of s v) (sym is_t) taken.urgent,
        )
    | inr not_p ↦
        let before = below.covers x u r (omega arith) there claim in
        elim (cases_eq r q) [
          | inl it ↦
              let le = taken.before before.0 (ap (task_on table) (sym it) ∙ before.1) in
              let le' = before.2 in
              (taken.holder, ap (task_on new) it ∙ taken.there, omega arith)
          | inr other ↦ (before.0, taken.others r other ∙ before.1, before.2)
        ]
  ];
}
  where
    later : (r u : ℕ) → Claims s seen u r × ((x : ℕ) × (x < p) × (task_on s x ≡ Some u))
        → Claims s seen u r × ((x : ℕ) × (x < p + 1) × (task_on s x ≡ Some u))
    later r u before = (before.0, (before.1.0, (let l = before.1.1 in omega arith), before.1.2))

module _ (s table : State) (seen : List (Option ℕ)) (p : ℕ) (ok : IsState s) (all : s.processors ≤ p)
    (below : IsFilledBelow s seen table p) where
  covered : (q t : ℕ) → Claims s seen t q → (u : ℕ) × (task_on table q ≡ Some u) × (priority_of s u ≤ priority_of s t)
  covered q t claims =
      let on = task_on-linked s t claims.linked in
      let lt = occupied_number s (place_in t s.on) t ok on in
      below.covers (place_in t s.on) t q (omega arith) on claims

  pub table_whole : IsState table → IsTable s seen table
  table_whole ok_table = record {
    same = below.same;
    state = ok_table;
    holds = λ q t on. (below.holds q t on).0;
    covers = λ q t claims. let held = covered q t claims in (held.0, held.1);
  }

  pub fresh_whole : IsFresh s seen table
  fresh_whole q t u on claims =
      let held = covered q u claims in subst (λ (v : ℕ). priority_of s v ≤ priority_of s u) (same_Some held.0 t (sym held.1 ∙ on)) held.2
