-- A task leaves, its mask changes while it is absent, or a processor goes off line or comes on line: what stays stable.
use Rattle.std.proofs.Common.{◌≡◌, ◌≢◌, ℕ, ◌<◌, true, false, not, ◌||◌, Bool, Some, sym, ap, ◌∙◌, inl, inr, IsTrue, arith, get_or-set_same}
use Rattle.std.proofs.Common.{get_or-set_other, nat_eq, ne_eqb, get_or, set}
use Rattle.std.proofs.lemmas.Bool.{cases_eq, true≢false, and_parts, and_from}
use Rattle.affinity_mask.specs.ProcSet.{has}
use Rattle.affinity_mask.proofs.Sets.{has-intersection}
use Rattle.strong_apa.specs.State.{State, IsState, IsWaiting, task_on, task_count, is_ready, mask_of, effective_mask, state_with_ready}
use Rattle.strong_apa.specs.State.{state_with_absent, state_with_mask, state_with_online, state_with_offline, state_after_leaving}
use Rattle.strong_apa.proofs.Changes.{effective_mask-offline, effective_mask-online, effective_mask-other}
use Rattle.strong_apa.proofs.Leaving.{task_on-stays}
use Rattle.strong_apa.proofs.Linked.{not_linked-from_on, not_on}
use Rattle.strong_apa.proofs.Readiness.{IsWaiting-state_with_ready}
use Rattle.weak_apa.specs.Stable.{IsWeaklyStable, IsStableBeside, IsToBePlaced}

-- who waits is another task than one that is absent
waiting_is_other : (s : State) (t w : ℕ) → is_ready s t ≡ false → IsWaiting s w → w ≢ t
waiting_is_other s t w absent waiting same = true≢false (sym waiting.ready ∙ ap (is_ready s) same ∙ absent)

module _ (s : State) (ok : IsState s) (t : ℕ) (number : t < task_count s) where
  pub absent_then : is_ready (state_with_absent s t) t ≡ false
  absent_then = get_or-set_same s.ready t false false (rw ok.ready_count number)

  -- a task that waits, and was not linked before, waited before
  ready_before : (w : ℕ) → get_or (set s.ready t false) w false ≡ true → is_ready s w ≡ true
  ready_before w ready = elim (cases_eq w t) [
    | inl same ↦ absurd (true≢false (sym ready ∙ ap (λ (n : ℕ). get_or (set s.ready t false) n false) same ∙ absent_then))
    | inr other ↦ sym (get_or-set_other s.ready t w false false other) ∙ ready
  ]

  -- t waited, and becomes absent
  pub stable_absent : IsWeaklyStable s → IsWeaklyStable (state_with_absent s t)
  stable_absent stable w waiting p inside =
      stable w record { ready = ready_before w waiting.ready; not_linked = waiting.not_linked } p inside

  -- t leaves a processor
  pub stable_left : IsWeaklyStable s → (place : ℕ) → task_on s place ≡ Some t → IsStableBeside (state_after_leaving s t) place
  stable_left stable place on w p waiting inside other =
      let left = state_after_leaving s t in
      let is_other : w ≢ t = λ same. true≢false (sym waiting.ready ∙ ap (λ (n : ℕ). get_or (set s.ready t false) n false) same
      ∙ absent_then) in
      let before : IsWaiting s w = record {
        ready = ready_before w waiting.ready;
        not_linked = not_linked-from_on s w (λ q there. not_on left q w waiting.not_linked (task_on-stays s t q w there is_other));
      } in
      let runs = stable w before p inside in
      (runs.0, task_on-stays s t p runs.0 runs.1 (λ same. other (ok.once p place t (runs.1 ∙ ap (λ (n : ℕ). Some n) same) on)), runs.2)

  -- t becomes ready, and is to be placed
  pub to_be_placed : is_ready s t ≡ false → IsWeaklyStable s → IsToBePlaced (state_with_ready s t) t
  to_be_placed absent stable = record {
    number = number;
    waits = IsWaiting-state_with_ready s ok t number absent;
    others = λ w waiting other p inside. stable w record {
      ready = sym (get_or-set_other s.ready t w true false other) ∙ waiting.ready;
      not_linked = waiting.not_linked;
    } p inside;
  }

-- the mask of an absent task changes
pub stable_masked : (s : State) (t mask : ℕ) → is_ready s t ≡ false → IsWeaklyStable s → IsWeaklyStable (state_with_mask s t mask)
stable_masked s t mask absent stable w waiting p inside =
    let same = effective_mask-other s t mask w
    (waiting_is_other s t w absent record { ready = waiting.ready; not_linked = waiting.not_linked }) in
    stable w record { ready = waiting.ready; not_linked = waiting.not_linked } p (rw same at inside)

-- a processor that goes off line is in no effective mask
off_line : (s : State) (q w p : ℕ) → IsTrue (has (effective_mask (state_with_offline s q) w) p) → IsTrue (has (effective_mask s w) p)
    × (p ≢ q)
off_line s q w p inside =
    let parts = and_parts (has (effective_mask s w) p) (not (nat_eq p q)) (sym (effective_mask-offline s q w p) ∙ inside) in
    (parts.0, λ same. off same parts.1)
  where
    off : p ≡ q → not (nat_eq p q) ≡ true → ⊥
    off same not_same = grind (arith, same, not_same)

pub stable_offline : (s : State) (q : ℕ) → IsStableBeside s q → IsWeaklyStable (state_with_offline s q)
stable_offline s q beside w waiting p inside =
    let before = off_line s q w p inside in
    beside w p record { ready = waiting.ready; not_linked = waiting.not_linked } before.0 before.1

pub beside_from_stable : (s : State) (q : ℕ) → IsWeaklyStable s → IsStableBeside s q
beside_from_stable s q stable w p waiting inside other = stable w waiting p inside

-- a processor that comes on line adds itself to effective masks, and no other
pub stable_online : (s : State) (q : ℕ) → IsWeaklyStable s → IsStableBeside (state_with_online s q) q
stable_online s q stable w p waiting inside other =
    let parts = and_parts (has (mask_of s w) p) (has s.online p || nat_eq p q) (sym (effective_mask-online s q w p) ∙ inside) in
    let on : has s.online p ≡ true = or_false (has s.online p) (rw (ne_eqb p q other) at parts.1) in
    stable w record { ready = waiting.ready; not_linked = waiting.not_linked } p
    (has-intersection (mask_of s w) s.online p ∙ and_from (has (mask_of s w) p) (has s.online p) parts.0 on)
  where
    or_false : (a : Bool) → (a || false) ≡ true → a ≡ true
    or_false a e = grind arith
