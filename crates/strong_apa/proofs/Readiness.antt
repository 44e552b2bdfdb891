-- What stays when a task becomes ready.
use Rattle.std.proofs.Common.{◌≡◌, ◌≢◌, ℕ, ◌<◌, Bool, true, false, List, length, set, Some, sym, ap, ◌∙◌, inl, inr, length-set}
use Rattle.std.proofs.Common.{get_or-set_same, get_or-set_other}
use Rattle.std.proofs.lemmas.Bool.{cases_eq, true≢false}
use Rattle.std.proofs.lemmas.List.{set-get_or}
use Rattle.strong_apa.specs.State.{State, IsState, IsWaiting, task_count, task_on, is_ready, is_linked, state_with_ready}
use Rattle.strong_apa.proofs.Linked.{not_linked-from_on}

-- a ready task becomes ready: nothing changes
pub ready_already : (s : State) (t : ℕ) → is_ready s t ≡ true → state_with_ready s t ≡ s
ready_already s t ready =
    ap (λ (flags : List Bool). record s { ready = flags }) (ap (set s.ready t) (sym ready) ∙ set-get_or s.ready t false)

module _ (s : State) (ok : IsState s) (t : ℕ) (number : t < task_count s) where
  in_column : t < length s.ready
  in_column = rw ok.ready_count number

  -- t is ready then, and every other task is as it was
  pub is_ready-state_with_ready : is_ready (state_with_ready s t) t ≡ true
  is_ready-state_with_ready = get_or-set_same s.ready t true false in_column

  -- an absent task is on no processor
  pub absent_nowhere : is_ready s t ≡ false → (p : ℕ) → task_on s p ≢ Some t
  absent_nowhere absent p e = true≢false (sym (ok.linked_ready p t e) ∙ absent)

  pub absent_not_linked : is_ready s t ≡ false → is_linked s t ≡ false
  absent_not_linked absent = not_linked-from_on s t (absent_nowhere absent)

  -- an absent task that becomes ready waits
  pub IsWaiting-state_with_ready : is_ready s t ≡ false → IsWaiting (state_with_ready s t) t
  IsWaiting-state_with_ready absent = record {
    ready = is_ready-state_with_ready;
    not_linked = not_linked-from_on s t (absent_nowhere absent);
  }

  pub IsState-state_with_ready : IsState (state_with_ready s t)
  IsState-state_with_ready = record {
    processors = ok.processors;
    count = ok.count;
    masks_count = ok.masks_count;
    ready_count = length-set s.ready t true ∙ ok.ready_count;
    on_count = ok.on_count;
    online = ok.online;
    masks = ok.masks;
    distinct = ok.distinct;
    allowed = ok.allowed;
    once = ok.once;
    linked_ready = λ p u e. elim (cases_eq u t) [
      | inl same ↦ rw same is_ready-state_with_ready
      | inr other ↦ get_or-set_other s.ready t u true false other ∙ ok.linked_ready p u e
    ];
  }
