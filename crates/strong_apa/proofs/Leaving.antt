-- What stays when a task becomes absent, and when a linked task leaves.
use Rattle.std.proofs.Common.{◌≡◌, ◌≢◌, ℕ, zero, suc, false, List, [], ◌∷◌, get_or, map, Option, Some, None, refl, sym, ap, ◌∙◌, inl, inr}
use Rattle.std.proofs.Common.{length-set, get_or-set_other, set, arith, eq-eqb, ne_eqb}
use Rattle.std.proofs.lemmas.Bool.{cases_eq}
use Rattle.std.proofs.lemmas.List.{length-map}
use Rattle.std.proofs.lemmas.Option.{same_Some}
use Rattle.strong_apa.specs.State.{State, IsState, IsWaiting, task_on, occupant_but, state_with_absent, state_with_idle}
use Rattle.strong_apa.specs.State.{state_after_leaving}
use Rattle.strong_apa.proofs.Linked.{not_on}

-- ---- a waiting task leaves
pub IsState-state_with_absent : (s : State) → IsState s → (t : ℕ) → IsWaiting s t → IsState (state_with_absent s t)
IsState-state_with_absent s ok t waits = record {
  processors = ok.processors;
  count = ok.count;
  masks_count = ok.masks_count;
  ready_count = length-set s.ready t false ∙ ok.ready_count;
  on_count = ok.on_count;
  online = ok.online;
  masks = ok.masks;
  distinct = ok.distinct;
  allowed = ok.allowed;
  once = ok.once;
  linked_ready = λ p u e. elim (cases_eq u t) [
    | inl same ↦ absurd (not_on s p t waits.not_linked (rw (← same) e))
    | inr other ↦ get_or-set_other s.ready t u false false other ∙ ok.linked_ready p u e
  ];
}

-- ---- a task leaves, and its processor has no task then
occupant_but-at : (on : List (Option ℕ)) (t p : ℕ) → get_or (map (occupant_but t) on) p None ≡ occupant_but t (get_or on p None)
occupant_but-at [] t p = refl
occupant_but-at (o ∷ on) t zero = refl
occupant_but-at (o ∷ on) t (suc p) = occupant_but-at on t p

occupant_but-Some : (t u : ℕ) (o : Option ℕ) → occupant_but t o ≡ Some u → (o ≡ Some u) × (u ≢ t)
occupant_but-Some t u None e = cc
occupant_but-Some t u (Some v) e = elim (cases_eq v t) [
  | inl same ↦ absurd (let h : ◌≡◌ {A = Option ℕ} None (Some u) = (rw (eq-eqb v t same) at e) in cc)
  | inr other ↦ (let h : Some v ≡ Some u = (rw (ne_eqb v t other) at e) in (h, λ ut. other (same_Some v u h ∙ ut)))
]

-- whoever is on a processor then was there before, and is not t
pub task_on-state_after_leaving : (s : State) (t p u : ℕ) → task_on (state_after_leaving s t) p ≡ Some u → (task_on s p ≡ Some u) × (u ≢ t)
task_on-state_after_leaving s t p u e = occupant_but-Some t u (task_on s p) (sym (occupant_but-at s.on t p) ∙ e)

-- whoever was on a processor before, and is not t, is there then
pub task_on-stays : (s : State) (t p u : ℕ) → task_on s p ≡ Some u → u ≢ t → task_on (state_after_leaving s t) p ≡ Some u
task_on-stays s t p u e other = occupant_but-at s.on t p ∙ ap (occupant_but t) e ∙ rw (ne_eqb u t other) refl

-- the processor of t has no task then
pub task_on-left : (s : State) (t p : ℕ) → task_on s p ≡ Some t → task_on (state_after_leaving s t) p ≡ None
task_on-left s t p e = occupant_but-at s.on t p ∙ ap (occupant_but t) e ∙ rw (eq-eqb t t refl) refl

pub IsState-state_after_leaving : (s : State) → IsState s → (t : ℕ) → IsState (state_after_leaving s t)
IsState-state_after_leaving s ok t = record {
  processors = ok.processors;
  count = ok.count;
  masks_count = ok.masks_count;
  ready_count = length-set s.ready t false ∙ ok.ready_count;
  on_count = length-map s.on (occupant_but t) ∙ ok.on_count;
  online = ok.online;
  masks = ok.masks;
  distinct = ok.distinct;
  allowed = λ p u e. ok.allowed p u (task_on-state_after_leaving s t p u e).0;
  once = λ p q u e f. ok.once p q u (task_on-state_after_leaving s t p u e).0 (task_on-state_after_leaving s t q u f).0;
  linked_ready = λ p u e. let before = task_on-state_after_leaving s t p u e in get_or-set_other s.ready t u false false before.1
      ∙ ok.linked_ready p u before.0;
}

-- ---- a linked task is unlinked and made absent
-- an occupant that is not t stays
other_stays : (t : ℕ) (occupant : Option ℕ) → (occupant ≡ Some t → ⊥) → occupant ≡ occupant_but t occupant
other_stays t None other = refl
other_stays t (Some u) other = elim (cases_eq u t) [
  | inl same ↦ absurd (other (ap (λ (n : ℕ). Some n) same))
  | inr differs ↦ rw (ne_eqb u t differs) refl
]

-- where t is nowhere, all stay
all_stay : (on : List (Option ℕ)) (t : ℕ) → ((q : ℕ) → get_or on q None ≡ Some t → ⊥) → on ≡ map (occupant_but t) on
all_stay [] t nowhere = refl
all_stay (occupant ∷ on) t nowhere = rw (← other_stays t occupant (nowhere 0), ← all_stay on t (λ q. nowhere (suc q))) refl

-- where t is on p alone, to empty p is to take t away
emptied : (on : List (Option ℕ)) (t p : ℕ) → get_or on p None ≡ Some t → ((q : ℕ) → get_or on q None ≡ Some t → q ≡ p)
    → set on p None ≡ map (occupant_but t) on
emptied [] t p here alone = cc
emptied (occupant ∷ on) t zero here alone =
    rw (here, eq-eqb t t refl, ← all_stay on t (λ q there. (let e = alone (suc q) there in absurd (omega arith)))) refl
emptied (occupant ∷ on) t (suc p) here alone = rw (
  ← other_stays t occupant (λ there. (let e = alone 0 there in absurd (omega arith))),
  ← emptied on t p here (λ q there. (let e = alone (suc q) there in omega arith)),
) refl

pub left_state : (s mid new : State) → IsState s → (t p : ℕ) → task_on s p ≡ Some t → mid ≡ state_with_idle s p
    → new ≡ state_with_absent mid t → new ≡ state_after_leaving s t
left_state s mid new ok t p on idle absent = absent ∙ rw (idle, emptied s.on t p on (λ q there. ok.once q p t there on)) refl
