-- The priorities of a set, kept as a list beside its tasks, in which a priority is looked up.
use Rattle.std.proofs.Common.{◌≡◌, ◌≢◌, ℕ, ◌+◌, Bool, false, cond, List, [], ◌∷◌, ◌++◌, map, ◌||◌, refl, sym, ap, ◌∙◌, if◌then◌else◌, None}
use Rattle.std.proofs.Common.{Some, eq-eqb, eqb-true}
use Rattle.std.specs.Prelude.{position, nat_eq}
use Rattle.std.specs.List.{position_from, list_any}
use Rattle.std.proofs.lemmas.Bool.{true≢false, false_from_ne_true}
use Rattle.std.proofs.lemmas.Iterator.Adapters.{position_from-zero}
use Rattle.std.proofs.lemmas.List.{map-append}
use Rattle.std.proofs.lemmas.List.Elements.{All-weaker}
use Rattle.std.proofs.lemmas.List.Folds.{list_any_none}
use Rattle.indexmap.specs.IndexSet.{insert_key}
use Rattle.task_set.proofs.Lists.{position-None, position-Some}
use Rattle.task_set.specs.Refusal.{IsNewPriority, IsPriorityOf}
use Rattle.task_set.specs.TaskSet.{TaskData, SetData, with_task, priorities}

position_from-map : {X A : Type 0} (p : A → Bool) (g : X → A) (n : ℕ) (xs : List X)
    → position_from p n (map g xs) ≡ position_from (λ x. p (g x)) n xs
position_from-map p g n [] = refl
position_from-map p g n (x ∷ xs) = ap (cond (p (g x)) (Some n)) (position_from-map p g (n + 1) xs)

position-map : {X A : Type 0} (p : A → Bool) (g : X → A) (xs : List X) → position p (map g xs) ≡ position (λ x. p (g x)) xs
position-map p g xs = position_from-zero p (map g xs) ∙ position_from-map p g 0 xs ∙ sym (position_from-zero (λ x. p (g x)) xs)

list_any-map : {X A : Type 0} (p : A → Bool) (g : X → A) (xs : List X) → list_any p (map g xs) ≡ list_any (λ x. p (g x)) xs
list_any-map p g [] = refl
list_any-map p g (x ∷ xs) = ap (λ rest. p (g x) || rest) (list_any-map p g xs)

-- whether the priority of a task is this one
abbrev has_priority : ℕ → TaskData → Bool
has_priority priority task = nat_eq priority task.priority

module _ (s : SetData) (keys : List ℕ) (priority : ℕ) (kept : keys ≡ priorities s) where
  -- a priority that the list has not is new, and one that it has is that task's
  pub priority_absent : position (nat_eq priority) keys ≡ None → IsNewPriority s priority
  priority_absent e =
      All-weaker (λ t. has_priority priority t ≡ false) (λ t. t.priority ≢ priority)
      (λ t fails same. true≢false (sym (eq-eqb _ _ (sym same)) ∙ fails)) s.tasks
      (position-None (has_priority priority) s.tasks (sym (position-map (nat_eq priority) (λ t. t.priority) s.tasks)
      ∙ sym (ap (position (nat_eq priority)) kept) ∙ e))

  pub priority_found : (t : ℕ) → position (nat_eq priority) keys ≡ Some t → IsPriorityOf s t priority
  priority_found t e =
      position-Some (has_priority priority) (λ task. task.priority) priority (λ task passes. sym (eqb-true _ _ passes)) t s.tasks
      (sym (position-map (nat_eq priority) (λ task. task.priority) s.tasks) ∙ sym (ap (position (nat_eq priority)) kept) ∙ e)

-- the list after a task with a new priority was added
pub priorities-with_task : (s : SetData) (keys after : List ℕ) (task : TaskData) → keys ≡ priorities s → IsNewPriority s task.priority
    → after ≡ insert_key nat_eq keys task.priority → after ≡ priorities (with_task s task)
priorities-with_task s keys after task kept new inserted =
    let absent : list_any (nat_eq task.priority) (priorities s) ≡ false =
    list_any-map (nat_eq task.priority) (λ t. t.priority) s.tasks
    ∙ list_any_none (has_priority task.priority) s.tasks
    (All-weaker (λ t. t.priority ≢ task.priority) (λ t. has_priority task.priority t ≡ false)
    (λ t other. false_from_ne_true _ (λ same. other (sym (eqb-true _ _ same)))) s.tasks new) in
    inserted ∙ ap (λ list. insert_key nat_eq list task.priority) kept
    ∙ ap (λ (there : Bool). if there then priorities s else priorities s ++ task.priority ∷ []) absent
    ∙ sym (map-append (λ (t : TaskData). t.priority) s.tasks (task ∷ []))
