-- What stays when a processor becomes idle.
use Rattle.std.proofs.Common.{◌≡◌, ◌≢◌, ℕ, zero, suc, List, [], ◌∷◌, get_or, set, Option, Some, None, refl, sym, ◌∙◌, inl, inr, length-set}
use Rattle.std.proofs.Common.{get_or-set_other}
use Rattle.std.proofs.lemmas.Bool.{cases_eq}
use Rattle.strong_apa.specs.State.{State, IsState, IsWaiting, task_on, state_with_idle}
use Rattle.strong_apa.proofs.Linked.{not_linked-from_on}

-- no task is at a place where none was written, nor past the end of the table
pub idle_at : (on : List (Option ℕ)) (p : ℕ) → get_or (set on p None) p None ≡ None
idle_at [] p = refl
idle_at (o ∷ on) zero = refl
idle_at (o ∷ on) (suc p) = idle_at on p

-- p has no task then
pub task_on-idle : (s : State) (p : ℕ) → task_on (state_with_idle s p) p ≡ None
task_on-idle s p = idle_at s.on p

-- whoever is on a processor then was there before, and that processor is not p
pub task_on-state_with_idle : (s : State) (p q t : ℕ) → task_on (state_with_idle s p) q ≡ Some t → (task_on s q ≡ Some t) × (q ≢ p)
task_on-state_with_idle s p q t e = elim (cases_eq q p) [
  | inl same ↦ absurd (let h : ◌≡◌ {A = Option ℕ} None (Some t) = sym (task_on-idle s p) ∙ rw same at e in cc)
  | inr other ↦ (sym (get_or-set_other s.on p q None None other) ∙ e, other)
]

-- the task that was on p waits then, for it was on no other processor
pub IsWaiting-state_with_idle : (s : State) → IsState s → (p t : ℕ) → task_on s p ≡ Some t → IsWaiting (state_with_idle s p) t
IsWaiting-state_with_idle s ok p t e = record {
  ready = ok.linked_ready p t e;
  not_linked = not_linked-from_on (state_with_idle s p) t
      (λ q f. let before = task_on-state_with_idle s p q t f in before.1 (ok.once q p t before.0 e));
}

pub IsState-state_with_idle : (s : State) → IsState s → (p : ℕ) → IsState (state_with_idle s p)
IsState-state_with_idle s ok p = record {
  processors = ok.processors;
  count = ok.count;
  masks_count = ok.masks_count;
  ready_count = ok.ready_count;
  on_count = length-set s.on p None ∙ ok.on_count;
  online = ok.online;
  masks = ok.masks;
  distinct = ok.distinct;
  allowed = λ q t e. ok.allowed q t (task_on-state_with_idle s p q t e).0;
  once = λ q r t e f. ok.once q r t (task_on-state_with_idle s p q t e).0 (task_on-state_with_idle s p r t f).0;
  linked_ready = λ q t e. ok.linked_ready q t (task_on-state_with_idle s p q t e).0;
}
