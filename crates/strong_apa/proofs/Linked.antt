-- Who is where: the test, the place and the table of occupants agree.
use Rattle.std.proofs.Common.{◌≡◌, ◌≢◌, ℕ, zero, suc, ◌<◌, Bool, true, false, List, [], ◌∷◌, get_or, Option, Some, None, refl, sym, ap, ◌∙◌}
use Rattle.std.proofs.Common.{inl, inr, eq-eqb, eqb-true, cond, ◌↔◌}
use Rattle.std.specs.Prelude.{IsNone, IfSome, IfNone}
use Rattle.std.specs.List.{list_any}
use Rattle.std.proofs.lemmas.Bool.{or_left, or_right, cases_lt, cases_Bool, true≢false, false≢true}
use Rattle.std.proofs.lemmas.List.{get_or_past}
use Rattle.strong_apa.specs.State.{State, IsState, IsWaiting, task_count, task_on, is_task, is_ready, is_linked}

-- the first processor with the occupant t
abbrev pub place_in : ℕ → List (Option ℕ) → ℕ
place_in t [] = 0
place_in t (occupant ∷ rest) = cond (is_task t occupant) 0 (suc (place_in t rest))

pub is_task-same : (t : ℕ) → is_task t (Some t) ≡ true
is_task-same t = eq-eqb t t refl

pub is_task-true : (t : ℕ) (occupant : Option ℕ) → is_task t occupant ≡ true → occupant ≡ Some t
is_task-true t None h = absurd (false≢true h)
is_task-true t (Some u) h = ap (λ (n : ℕ). Some n) (eqb-true u t h)

any_from_at : (on : List (Option ℕ)) (p t : ℕ) → get_or on p None ≡ Some t → list_any (is_task t) on ≡ true
any_from_at [] p t e = cc
any_from_at (occupant ∷ rest) zero t e = or_left (is_task t occupant) (list_any (is_task t) rest) (rw e (is_task-same t))
any_from_at (occupant ∷ rest) (suc p) t e = or_right (is_task t occupant) (list_any (is_task t) rest) (any_from_at rest p t e)

at_from_any : (on : List (Option ℕ)) (t : ℕ) → list_any (is_task t) on ≡ true → get_or on (place_in t on) None ≡ Some t
at_from_any [] t h = absurd (false≢true h)
at_from_any (occupant ∷ rest) t h = go (is_task t occupant) refl (at_from_any rest t)
  where
    go : (b : Bool) → is_task t occupant ≡ b → (list_any (is_task t) rest ≡ true → get_or rest (place_in t rest) None ≡ Some t)
        → get_or (occupant ∷ rest) (cond (is_task t occupant) 0 (suc (place_in t rest))) None ≡ Some t
    go true e later = rw e (is_task-true t occupant e)
    go false e later = rw e (later (rw e at h))

-- an occupant is linked
pub is_linked-from_on : (s : State) (p t : ℕ) → task_on s p ≡ Some t → is_linked s t ≡ true
is_linked-from_on s p t e = any_from_at s.on p t e

-- a linked task is on some processor
pub task_on-linked : (s : State) (t : ℕ) → is_linked s t ≡ true → task_on s (place_in t s.on) ≡ Some t
task_on-linked s t h = at_from_any s.on t h

-- a task that is not linked is on no processor
pub not_on : (s : State) (p t : ℕ) → is_linked s t ≡ false → task_on s p ≢ Some t
not_on s p t not_linked e = true≢false (sym (is_linked-from_on s p t e) ∙ not_linked)

-- a task that is on no processor is not linked
pub not_linked-from_on : (s : State) (t : ℕ) → ((p : ℕ) → task_on s p ≢ Some t) → is_linked s t ≡ false
not_linked-from_on s t nowhere = elim (cases_Bool (is_linked s t)) [
  | inl linked ↦ absurd (nowhere (place_in t s.on) (task_on-linked s t linked))
  | inr not_linked ↦ not_linked
]

-- an occupant is a task of the set
pub linked_number : (s : State) (p t : ℕ) → IsState s → task_on s p ≡ Some t → t < task_count s
linked_number s p t ok e = elim (cases_lt t (task_count s)) [
  | inl lt ↦ lt
  | inr ge ↦ absurd (true≢false (sym (ok.linked_ready p t e) ∙ get_or_past s.ready t false (rw ok.ready_count ge)))
]

-- an occupied processor is one of the processors
pub occupied_number : (s : State) (p t : ℕ) → IsState s → task_on s p ≡ Some t → p < s.processors
occupied_number s p t ok e = elim (cases_lt p s.processors) [
  | inl lt ↦ lt
  | inr ge ↦ let past = get_or_past s.on p None (rw ok.on_count ge) in cc
]

-- a ready task that does not wait is linked
pub linked_from_not_waiting : (s : State) (t : ℕ) → is_ready s t ≡ true → (IsWaiting s t → ⊥) → is_linked s t ≡ true
linked_from_not_waiting s t ready not_waiting = elim (cases_Bool (is_linked s t)) [
  | inl linked ↦ linked
  | inr not_linked ↦ absurd (not_waiting record { ready = ready; not_linked = not_linked })
]

-- what a place says of a task: it is linked there, and nowhere where there is no place
pub none_from_place : (s : State) (t : ℕ) (place : Option ℕ) → IfSome place (λ p. task_on s p ≡ Some t)
    → IfNone place ((p : ℕ) → task_on s p ≡ Some t → ⊥) → IsNone place ↔ (is_linked s t ≡ false)
none_from_place s t None there nowhere = (λ _. not_linked-from_on s t nowhere, λ _. refl)
none_from_place s t (Some p) there nowhere = (λ h. absurd (true≢false h), λ not_linked. absurd (not_on s p t not_linked there))
