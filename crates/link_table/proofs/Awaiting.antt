-- The processors that tasks wait for: who waits for some, and what stays as it was when tasks move.
use Rattle.std.proofs.Common.{◌≡◌, ◌≢◌, ℕ, ◌<◌, true, false, ◌&&◌, List, [], ◌∷◌, length, get_or, set, replicate, Option, Some, None, refl}
use Rattle.std.proofs.Common.{sym, ap, ◌∙◌, subst, inl, inr, ◌⊎◌, IsTrue, arith, length-set, get_or-set_same, get_or-set_other}
use Rattle.std.specs.Prelude.{MatchOption}
use Rattle.std.proofs.lemmas.Bool.{cases_eq, cases_Bool, and_from, and_parts, true≢false}
use Rattle.std.proofs.lemmas.List.{set-set, get_or-replicate, length-replicate}
use Rattle.std.proofs.lemmas.List.FromFn.{get_or-map-range_with_len}
use Rattle.std.proofs.lemmas.Option.{same_Some}
use Rattle.affinity_mask.specs.ProcSet.{has, empty, Meets}
use Rattle.affinity_mask.proofs.Sets.{has-zero, has-intersection, same_set}
use Rattle.task_set.specs.TaskSet.{SetData, priorities}
use Rattle.strong_apa.specs.State.{State, IsState, IsWaiting, task_count, task_on, is_ready, is_linked, mask_of, effective_mask, start_of}
use Rattle.strong_apa.specs.State.{state_with_ready, state_with_absent, state_with_mask, state_with_idle, state_after_leaving}
use Rattle.strong_apa.specs.Chain.{IsChainOf, IsSimple, occupant_after_shift, state_after_shift}
use Rattle.link_table.specs.Layout.{layout_of, mask_has}
use Rattle.link_table.specs.LinksView.{awaited, AreAwaited}
use Rattle.strong_apa.specs.Step.{IsNobodyInto, IsMostUrgentInto}
use Rattle.link_table.specs.WaitingTasks.{Waiting, IsNobodyFor, IsFirstFor, masks_with}
use Rattle.strong_apa.proofs.Changes.{mask_of-other}
use Rattle.strong_apa.proofs.Idling.{IsWaiting-state_with_idle, task_on-state_with_idle}
use Rattle.strong_apa.proofs.Leaving.{task_on-state_after_leaving, task_on-stays}
use Rattle.strong_apa.proofs.Linked.{place_in, is_linked-from_on, task_on-linked, not_linked-from_on, linked_number}
use Rattle.strong_apa.proofs.Masks.{effective_mask_below}
use Rattle.strong_apa.proofs.Readiness.{IsState-state_with_ready, is_ready-state_with_ready}
use Rattle.strong_apa.proofs.Shifts.{occupant-first, occupant-later, occupant_from, occupant_allowed, task_on-state_after_shift, handed_on}
use Rattle.strong_apa.proofs.Shifts.{handed_on-from, handed_on-apart}
use Rattle.strong_apa.proofs.Simple.{Avoids, Avoids-none}
use Rattle.strong_apa.proofs.Start.{none_ready}
use Rattle.strong_apa.proofs.Unique.{ready_number}

-- ---- who waits for some processor
pub awaited-waiting : (s : State) (t : ℕ) → IsWaiting s t → awaited s t ≡ mask_of s t
awaited-waiting s t waits = rw (waits.ready, waits.not_linked) refl

awaited-absent : (s : State) (t : ℕ) → is_ready s t ≡ false → awaited s t ≡ empty
awaited-absent s t absent = rw absent refl

awaited-linked : (s : State) (t : ℕ) → is_linked s t ≡ true → awaited s t ≡ empty
awaited-linked s t linked = elim (cases_Bool (is_ready s t)) [
  | inl ready ↦ rw (ready, linked) refl
  | inr absent ↦ awaited-absent s t absent
]

awaited-same : (s new : State) (t : ℕ) → is_ready new t ≡ is_ready s t → is_linked new t ≡ is_linked s t → mask_of new t ≡ mask_of s t
    → awaited s t ≡ awaited new t
awaited-same s new t ready linked mask = rw (ready, linked, mask) refl

waits_from_awaited : (s : State) (X t : ℕ) → Meets X (awaited s t) → IsWaiting s t
waits_from_awaited s X t m = elim (cases_Bool (is_ready s t)) [
  | inl ready ↦ elim (cases_Bool (is_linked s t)) [
    | inl linked ↦ absurd (true≢false (sym (m.2) ∙ ap (λ n. has n (m.0)) (awaited-linked s t linked) ∙ has-zero (m.0)))
    | inr not_linked ↦ record { ready = ready; not_linked = not_linked }
  ]
  | inr absent ↦ absurd (true≢false (sym (m.2) ∙ ap (λ n. has n (m.0)) (awaited-absent s t absent) ∙ has-zero (m.0)))
]

-- the first that waits for a processor on line of the set is the most urgent one that can enter there
pub most_urgent_from_first : (s : State) → IsState s → (w : Waiting) → w.priorities ≡ s.priorities → AreAwaited s w.masks → (X Y : ℕ)
    → ((p : ℕ) → has Y p ≡ (has X p && has s.online p)) → (found : Option ℕ) → MatchOption found (IsNobodyFor w Y) (IsFirstFor w Y)
    → MatchOption found (IsNobodyInto s X) (IsMostUrgentInto s X)
most_urgent_from_first s ok w same are X Y is_both found h = go found h
  where
    seen : (v p : ℕ) → IsWaiting s v → IsTrue (has X p) → IsTrue (has (effective_mask s v) p) → Meets Y (get_or w.masks v empty)
    seen v p waits inside can =
        let parts = and_parts (has (mask_of s v) p) (has s.online p) (sym (has-intersection (mask_of s v) s.online p) ∙ can) in (
          p,
          is_both p ∙ and_from (has X p) (has s.online p) inside parts.1,
          ap (λ n. has n p) (are.each v (ready_number s ok v waits.ready) ∙ awaited-waiting s v waits) ∙ parts.0,
        )

    go : (found : Option ℕ) → MatchOption found (IsNobodyFor w Y) (IsFirstFor w Y)
        → MatchOption found (IsNobodyInto s X) (IsMostUrgentInto s X)
    go None none = λ v p waits inside can. none v (seen v p waits inside can)
    go (Some t) first =
        let number : t < task_count s = rw same at first.number in
        let m : Meets Y (awaited s t) = subst (λ n. Meets Y n) (are.each t number) first.waits in
        let waits = waits_from_awaited s Y t m in
        let inside = and_parts (has X m.0) (has s.online m.0) (sym (is_both m.0) ∙ m.1) in
        let masked : IsTrue (has (mask_of s t) m.0) = ap (λ n. has n (m.0)) (sym (awaited-waiting s t waits)) ∙ m.2 in
        record {
          waits = waits;
          there = (
            m.0,
            inside.0,
            has-intersection (mask_of s t) s.online m.0 ∙ and_from (has (mask_of s t) m.0) (has s.online m.0)
                masked inside.1,
          );
          most_urgent = λ v p waits_v inside_v can. rw same at first.most_urgent v (seen v p waits_v inside_v can);
        }

-- ---- nobody waits at first
pub AreAwaited-start : (set : SetData) (masks : List ℕ) → masks ≡ replicate (length (priorities set)) empty
    → AreAwaited (start_of set) masks
AreAwaited-start set masks is = rw is record {
  count = length-replicate (length (priorities set)) empty;
  each = λ t lt. get_or-replicate (length (priorities set)) t empty empty lt
      ∙ sym (awaited-absent (start_of set) t (none_ready (length set.tasks) t));
}

-- ---- nothing of it changes where other processors are on line
pub AreAwaited-online : (s : State) (masks : List ℕ) (online : ℕ) → AreAwaited s masks → AreAwaited (record s { online = online }) masks
AreAwaited-online s masks online are = record { count = are.count; each = are.each }

-- ---- one task changes, and the others stay as they were
same_linked : (s new : State) (u : ℕ) → ((p : ℕ) → task_on s p ≡ Some u → is_linked new u ≡ true)
    → ((p : ℕ) → task_on new p ≡ Some u → is_linked s u ≡ true) → is_linked new u ≡ is_linked s u
same_linked s new u there back = elim (cases_Bool (is_linked s u)) [
  | inl linked ↦ there (place_in u s.on) (task_on-linked s u linked) ∙ sym linked
  | inr not_linked ↦ not_linked-from_on new u (λ p e. true≢false (sym (back p e) ∙ not_linked)) ∙ sym not_linked
]

module _ (s : State) (ok : IsState s) (masks : List ℕ) (are : AreAwaited s masks) (t : ℕ) (number : t < task_count s) where
  -- a write at t
  written : (new : State) (item : ℕ) → task_count new ≡ task_count s → item ≡ awaited new t
      → ((u : ℕ) → u ≢ t → u < task_count s → awaited s u ≡ awaited new u) → AreAwaited new (set masks t item)
  written new item same_count here others = record {
    count = length-set masks t item ∙ are.count ∙ sym same_count;
    each = λ u lt. elim (cases_eq u t) [
      | inl e ↦ rw e (get_or-set_same masks t item empty (let n = are.count in omega arith) ∙ here)
      | inr ne ↦ let below : u < task_count s =
          omega arith in get_or-set_other masks t u item empty ne ∙ are.each u below ∙ others u ne below
    ];
  }

  pub AreAwaited-ready : IsWaiting (state_with_ready s t) t → AreAwaited (state_with_ready s t) (set masks t (mask_of s t))
  AreAwaited-ready waits = written (state_with_ready s t) (mask_of s t) refl (sym (awaited-waiting (state_with_ready s t) t waits))
      (λ u ne lt. awaited-same s (state_with_ready s t) u (get_or-set_other s.ready t u true false ne) refl refl)

  pub AreAwaited-absent : AreAwaited (state_with_absent s t) (set masks t empty)
  AreAwaited-absent = written (state_with_absent s t) empty refl
      (sym (awaited-absent (state_with_absent s t) t (get_or-set_same s.ready t false false (let n = ok.ready_count in omega arith))))
      (λ u ne lt. awaited-same s (state_with_absent s t) u (get_or-set_other s.ready t u false false ne) refl refl)

  pub AreAwaited-idle : (p : ℕ) → task_on s p ≡ Some t → AreAwaited (state_with_idle s p) (set masks t (mask_of s t))
  AreAwaited-idle p on = written (state_with_idle s p) (mask_of s t) refl
      (sym (awaited-waiting (state_with_idle s p) t (IsWaiting-state_with_idle s ok p t on)))
      (λ u ne lt. awaited-same s (state_with_idle s p) u refl
      (same_linked s (state_with_idle s p) u (there u ne) (λ q e. is_linked-from_on s q u (task_on-state_with_idle s p q u e).0)) refl)
    where
      there : (u : ℕ) → u ≢ t → (q : ℕ) → task_on s q ≡ Some u → is_linked (state_with_idle s p) u ≡ true
      there u ne q e = is_linked-from_on (state_with_idle s p) q u
          (get_or-set_other s.on p q None None (λ same. ne (same_Some u t (sym e ∙ ap (task_on s) same ∙ on))) ∙ e)

  -- another mask of an absent task: it does not wait
  pub AreAwaited-masked : is_ready s t ≡ false → (mask : ℕ) → AreAwaited (state_with_mask s t mask) masks
  AreAwaited-masked absent mask = record {
    count = are.count;
    each = λ u lt. are.each u lt ∙ elim (cases_eq u t) [
      | inl e ↦ rw e (awaited-absent s t absent ∙ sym (awaited-absent (state_with_mask s t mask) t absent))
      | inr ne ↦ awaited-same s (state_with_mask s t mask) u refl refl (mask_of-other s t mask u ne)
    ];
  }

  -- a linked task leaves: it did not wait, and does not then
  pub AreAwaited-leaving : is_linked s t ≡ true → AreAwaited (state_after_leaving s t) masks
  AreAwaited-leaving linked = record {
    count = are.count;
    each = λ u lt. are.each u lt ∙ elim (cases_eq u t) [
      | inl e ↦ rw e (awaited-linked s t linked
          ∙ sym (awaited-absent (state_after_leaving s t) t
          (get_or-set_same s.ready t false false (let n = ok.ready_count in omega arith))))
      | inr ne ↦ awaited-same s (state_after_leaving s t) u (get_or-set_other s.ready t u false false ne)
          (same_linked s (state_after_leaving s t) u (λ p e. is_linked-from_on (state_after_leaving s t) p u (task_on-stays s t p u e ne))
          (λ p e. is_linked-from_on s p u (task_on-state_after_leaving s t p u e).0)) refl
    ];
  }

-- ---- a shift
-- whoever was on a processor outside V is on one then, or was handed on at the end
shifted_there : (s : State) (V : ℕ → Type 0) (guest : Option ℕ) (chain : List ℕ) (y u : ℕ) → Avoids V chain → (V y → ⊥)
    → task_on s y ≡ Some u → ((p : ℕ) × (V p → ⊥) × (occupant_after_shift s guest chain p ≡ Some u)) ⊎ (handed_on s guest chain ≡ Some u)
shifted_there s V guest [] y u avoids out e = inl (y, out, e)
shifted_there s V guest (x ∷ rest) y u avoids out e =
    go (cases_eq y x) (shifted_there s (λ q. (q ≡ x) ⊎ V q) (task_on s x) rest y u avoids.1)
  where
    moved : (rest : List ℕ) → Avoids (λ q. (q ≡ x) ⊎ V q) rest → task_on s x ≡ Some u
        → ((p : ℕ) × (V p → ⊥) × (occupant_after_shift s guest (x ∷ rest) p ≡ Some u)) ⊎ (handed_on s guest (x ∷ rest) ≡ Some u)
    moved [] avoids here = inr here
    moved (z ∷ rest) avoids here = inl (
      z,
      (λ v. avoids.0 (inr v)),
      occupant-later s guest x (z ∷ rest) z (λ f. avoids.0 (inl f))
          ∙ occupant-first s (task_on s x) z rest ∙ here,
    )

    go : (y ≡ x) ⊎ (y ≡ x → ⊥) → (((y ≡ x) ⊎ V y → ⊥) → task_on s y ≡ Some u
        → ((p : ℕ) × ((p ≡ x) ⊎ V p → ⊥) × (occupant_after_shift s (task_on s x) rest p ≡ Some u))
        ⊎ (handed_on s (task_on s x) rest ≡ Some u)) → ((p : ℕ) × (V p → ⊥) × (occupant_after_shift s guest (x ∷ rest) p ≡ Some u))
        ⊎ (handed_on s guest (x ∷ rest) ≡ Some u)
    go (inl same) later = moved rest avoids.1 (ap (task_on s) (sym same) ∙ e)
    go (inr ne) later = elim (later (λ c. elim c [ inl h ↦ ne h | inr h ↦ out h ]) e) [
      | inl there ↦ inl (there.0, (λ v. there.1 (inr v)), occupant-later s guest x rest there.0 (λ f. there.1 (inl f)) ∙ there.2)
      | inr handed ↦ inr handed
    ]

module _ (s : State) (ok : IsState s) (t : ℕ) (number : t < task_count s) (waits : IsWaiting s t) (chain : List ℕ) (end : ℕ)
    (is_chain : IsChainOf s t chain end) (simple : IsSimple chain) where
  on_then : (p u : ℕ) → occupant_after_shift s (Some t) chain p ≡ Some u → task_on (state_after_shift s t chain) p ≡ Some u
  on_then p u e =
      let below = effective_mask_below s ok u p (occupant_allowed s ok t chain end is_chain p u e) in
      get_or-map-range_with_len (occupant_after_shift s (Some t) chain) 0 s.processors p p None below (omega arith) ∙ e

  newcomer_linked : is_linked (state_after_shift s t chain) t ≡ true
  newcomer_linked = go chain refl
    where
      go : (xs : List ℕ) → chain ≡ xs → is_linked (state_after_shift s t chain) t ≡ true
      go [] is = absurd (rw is at is_chain)
      go (x ∷ rest) is = is_linked-from_on (state_after_shift s t chain) x t
          (on_then x t (ap (λ (c : List ℕ). occupant_after_shift s (Some t) c x) is ∙ occupant-first s (Some t) x rest))

  -- who was linked, and is not handed on at the end, is linked then, and whoever is linked then was before, but for t
  others_linked : (u : ℕ) → u ≢ t → (handed_on s (Some t) chain ≡ Some u → ⊥) → is_linked (state_after_shift s t chain) u ≡ is_linked s u
  others_linked u ne stays = same_linked s (state_after_shift s t chain) u
      (λ p e. elim (shifted_there s (λ y. ⊥) (Some t) chain p u (Avoids-none chain simple) (λ v. v) e) [
        | inl there ↦ is_linked-from_on (state_after_shift s t chain) there.0 u (on_then there.0 u there.2)
        | inr handed ↦ absurd (stays handed)
      ])
      (λ p e. elim (occupant_from s (λ y. ⊥) (Some t) chain p u (Avoids-none chain simple) (λ v. v)
      (task_on-state_after_shift s t chain p u e)) [
        | inl it ↦ absurd (ne (sym (same_Some t u it)))
        | inr there ↦ is_linked-from_on s there.0 u there.2
      ])

  -- whoever is handed on at the end was on a processor
  displaced_on : (u : ℕ) → handed_on s (Some t) chain ≡ Some u → (y : ℕ) × (task_on s y ≡ Some u)
  displaced_on u handed = go chain refl
    where
      go : (xs : List ℕ) → chain ≡ xs → (y : ℕ) × (task_on s y ≡ Some u)
      go [] is = absurd (rw is at is_chain)
      go (x ∷ rest) is =
          let avoids : Avoids (λ y. ⊥) (x ∷ rest) = subst (Avoids (λ y. ⊥)) is (Avoids-none chain simple) in
          let there = handed_on-from s (λ y. ⊥) x rest u avoids.0 avoids.1 (ap (λ (c : List ℕ). handed_on s (Some t) c) (sym is)
          ∙ handed) in
          (there.0, there.2)

  module _ (masks : List ℕ) (are : AreAwaited s masks) where
    -- t waits no longer
    first_written : (u : ℕ) → u < task_count s → (handed_on s (Some t) chain ≡ Some u → ⊥) → get_or (set masks t empty) u empty
        ≡ awaited (state_after_shift s t chain) u
    first_written u lt stays = elim (cases_eq u t) [
      | inl e ↦ rw e (get_or-set_same masks t empty empty (let n = are.count in omega arith)
          ∙ sym (awaited-linked (state_after_shift s t chain) t newcomer_linked))
      | inr ne ↦ get_or-set_other masks t u empty empty ne ∙ are.each u lt ∙ awaited-same s (state_after_shift s t chain) u refl
          (others_linked u ne stays) refl
    ]

    -- whoever is handed on at the end waits
    displaced_waits : (u : ℕ) → handed_on s (Some t) chain ≡ Some u → IsWaiting (state_after_shift s t chain) u
    displaced_waits u handed =
        let there = displaced_on u handed in
        record {
          ready = ok.linked_ready there.0 u there.1;
          not_linked = not_linked-from_on (state_after_shift s t chain) u
              (λ p e. handed_on-apart s ok t waits chain (Avoids-none chain simple) p u handed e);
        }

    pub AreAwaited-shift : (out : Option ℕ) (runs : ℕ) → out ≡ handed_on s (Some t) chain
        → ((q : ℕ) → has runs q ≡ mask_has (layout_of s) out q)
        → AreAwaited (state_after_shift s t chain) (masks_with (set masks t empty) out runs)
    AreAwaited-shift None runs is are_runs = record {
      count = length-set masks t empty ∙ are.count;
      each = λ u lt. first_written u lt (λ handed. (let e : ◌≡◌ {A = Option ℕ} None (Some u) = is ∙ handed in cc));
    }
    AreAwaited-shift (Some v) runs is are_runs = record {
      count = length-set (set masks t empty) v runs ∙ length-set masks t empty ∙ are.count;
      each = λ u lt. elim (cases_eq u v) [
        | inl e ↦
            let there = displaced_on v (sym is) in
            let below = linked_number s there.0 v ok there.1 in
            rw e (get_or-set_same (set masks t empty) v runs empty (let n = are.count in let m = length-set masks t empty in omega arith)
            ∙ same_set runs (mask_of s v) are_runs ∙ sym (awaited-waiting (state_after_shift s t chain) v (displaced_waits v (sym is))))
        | inr ne ↦ get_or-set_other (set masks t empty) v u runs empty ne
            ∙ first_written u lt (λ handed. ne (sym (same_Some v u (is ∙ handed))))
      ];
    }

-- ---- a task that is not linked becomes ready, and is shifted: whether it waited or not, it waits for nothing then
pub AreAwaited-enter : (s : State) → IsState s → (t : ℕ) → t < task_count s → is_linked s t ≡ false → (chain : List ℕ) (end : ℕ)
    → IsChainOf (state_with_ready s t) t chain end → IsSimple chain
    → (masks : List ℕ) → AreAwaited s masks → (out : Option ℕ) (runs : ℕ) → out ≡ handed_on (state_with_ready s t) (Some t) chain
    → ((q : ℕ) → has runs q ≡ mask_has (layout_of s) out q)
    → AreAwaited (state_after_shift (state_with_ready s t) t chain) (masks_with (set masks t empty) out runs)
AreAwaited-enter s ok t number not_linked chain end is_chain simple masks are out runs is are_runs =
    let new = state_with_ready s t in
    let waits : IsWaiting new t = record { ready = is_ready-state_with_ready s ok t number; not_linked = not_linked } in
    let ready = AreAwaited-ready s ok masks are t number waits in
    subst (λ (written : List ℕ). AreAwaited (state_after_shift new t chain) (masks_with written out runs))
    (set-set masks t (mask_of s t) empty)
    (AreAwaited-shift new (IsState-state_with_ready s ok t number) t number waits chain end is_chain simple (set masks t (mask_of s t))
    ready out runs is are_runs)
