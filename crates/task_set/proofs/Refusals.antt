-- A task has one refusal at most, and none where it can be added.
use Rattle.std.proofs.Common.{◌≡◌, ℕ, ◌<◌, length, refl, sym, ap, ◌∙◌, arith}
use Rattle.std.proofs.Math.Nat.{le_antisymm}
use Rattle.std.proofs.lemmas.Bool.{true≢false}
use Rattle.affinity_mask.specs.ProcSet.{has, empty}
use Rattle.affinity_mask.proofs.Sets.{has-zero}
use Rattle.task_set.proofs.Lists.{same_place, no_image}
use Rattle.task_set.specs.TaskSet.{TaskData, SetData, IsTaskSet}
use Rattle.task_set.specs.Refusal.{CanAdd, IsRefusal, IsNewName, IsNameOf, IsNewPriority, IsPriorityOf, IsLeastOutside}
use Rattle.task_set.specs.declared.fault.TaskFault.{TaskFault}
use Rattle.task_set.specs.declared.fault.TaskFault.TheVariants.{BadName, Many, SameName, SamePriority, EmptyMask, OutsideMask, OutOfMemory}

name_not_new : (s : SetData) (task : TaskData) (t : ℕ) → IsNewName s task.name → IsNameOf s t task.name → ⊥
name_not_new s task t new has_it = no_image (λ (x : TaskData). x.name) s.tasks t task.name task new has_it

priority_not_new : (s : SetData) (task : TaskData) (t : ℕ) → IsNewPriority s task.priority → IsPriorityOf s t task.priority → ⊥
priority_not_new s task t new has_it = no_image (λ (x : TaskData). x.priority) s.tasks t task.priority task new has_it

empty_not_outside : (m X p : ℕ) → X ≡ empty → IsLeastOutside m X p → ⊥
empty_not_outside m X p none outside = true≢false (sym outside.member ∙ ap (λ Y. has Y p) none ∙ has-zero p)

module _ (s : SetData) (task : TaskData) where
  -- a task that can be added has no refusal
  pub CanAdd-IsRefusal : (fault : TaskFault) → CanAdd s task → IsRefusal s task fault → ⊥
  CanAdd-IsRefusal BadName can h = h can.name
  CanAdd-IsRefusal Many can h = let room : length s.tasks < 1024 = can.room in omega (arith, h.1)
  CanAdd-IsRefusal (SameName t) can h = name_not_new s task t can.new_name h.2
  CanAdd-IsRefusal (SamePriority t) can h = priority_not_new s task t can.new_priority h.3
  CanAdd-IsRefusal EmptyMask can h = can.mask.some h.4
  CanAdd-IsRefusal (OutsideMask p) can h = let below : p < s.processors = can.mask.below p h.4.member in omega (arith, h.4.outside)
  CanAdd-IsRefusal OutOfMemory can h = h

  same-BadName : (other : TaskFault) → IsRefusal s task BadName → IsRefusal s task other → BadName ≡ other
  same-BadName BadName h k = refl
  same-BadName OutOfMemory h k = absurd k
  same-BadName _ h k = absurd (h k.0)

  same-Many : (other : TaskFault) → IsRefusal s task Many → IsRefusal s task other → Many ≡ other
  same-Many BadName h k = absurd (k h.0)
  same-Many Many h k = refl
  same-Many OutOfMemory h k = absurd k
  same-Many _ h k = let room : length s.tasks < 1024 = k.1 in absurd (omega (arith, h.1))

  same-SameName : (t : ℕ) (other : TaskFault) → IsTaskSet s → IsRefusal s task (SameName t) → IsRefusal s task other → SameName t ≡ other
  same-SameName t BadName valid h k = absurd (k h.0)
  same-SameName t Many valid h k = let room : length s.tasks < 1024 = h.1 in absurd (omega (arith, k.1))
  same-SameName t (SameName u) valid h k = ap SameName
      (same_place (λ (x : TaskData). x.name) s.tasks t u task.name task (λ i j d lt within. (valid.differ i j d lt within).names) h.2 k.2)
  same-SameName t OutOfMemory valid h k = absurd k
  same-SameName t _ valid h k = absurd (name_not_new s task t k.2 h.2)

  same-SamePriority : (t : ℕ) (other : TaskFault) → IsTaskSet s → IsRefusal s task (SamePriority t) → IsRefusal s task other
      → SamePriority t ≡ other
  same-SamePriority t BadName valid h k = absurd (k h.0)
  same-SamePriority t Many valid h k = let room : length s.tasks < 1024 = h.1 in absurd (omega (arith, k.1))
  same-SamePriority t (SameName u) valid h k = absurd (name_not_new s task u h.2 k.2)
  same-SamePriority t (SamePriority u) valid h k = ap SamePriority
      (same_place (λ (x : TaskData). x.priority) s.tasks t u task.priority task
      (λ i j d lt within. (valid.differ i j d lt within).priorities) h.3 k.3)
  same-SamePriority t OutOfMemory valid h k = absurd k
  same-SamePriority t _ valid h k = absurd (priority_not_new s task t k.3 h.3)

  same-EmptyMask : (other : TaskFault) → IsRefusal s task EmptyMask → IsRefusal s task other → EmptyMask ≡ other
  same-EmptyMask BadName h k = absurd (k h.0)
  same-EmptyMask Many h k = let room : length s.tasks < 1024 = h.1 in absurd (omega (arith, k.1))
  same-EmptyMask (SameName u) h k = absurd (name_not_new s task u h.2 k.2)
  same-EmptyMask (SamePriority u) h k = absurd (priority_not_new s task u h.3 k.3)
  same-EmptyMask EmptyMask h k = refl
  same-EmptyMask (OutsideMask p) h k = absurd (empty_not_outside s.processors task.mask p h.4 k.4)
  same-EmptyMask OutOfMemory h k = absurd k

  same-OutsideMask : (p : ℕ) (other : TaskFault) → IsRefusal s task (OutsideMask p) → IsRefusal s task other → OutsideMask p ≡ other
  same-OutsideMask p BadName h k = absurd (k h.0)
  same-OutsideMask p Many h k = let room : length s.tasks < 1024 = h.1 in absurd (omega (arith, k.1))
  same-OutsideMask p (SameName u) h k = absurd (name_not_new s task u h.2 k.2)
  same-OutsideMask p (SamePriority u) h k = absurd (priority_not_new s task u h.3 k.3)
  same-OutsideMask p EmptyMask h k = absurd (empty_not_outside s.processors task.mask p k.4 h.4)
  same-OutsideMask p (OutsideMask q) h k =
      ap OutsideMask (le_antisymm (h.4.least q k.4.member k.4.outside) (k.4.least p h.4.member h.4.outside))
  same-OutsideMask p OutOfMemory h k = absurd k

  -- a task has one refusal at most
  pub same_refusal : (fault other : TaskFault) → IsTaskSet s → IsRefusal s task fault → IsRefusal s task other → fault ≡ other
  same_refusal BadName other valid h k = same-BadName other h k
  same_refusal Many other valid h k = same-Many other h k
  same_refusal (SameName t) other valid h k = same-SameName t other valid h k
  same_refusal (SamePriority t) other valid h k = same-SamePriority t other valid h k
  same_refusal EmptyMask other valid h k = same-EmptyMask other h k
  same_refusal (OutsideMask p) other valid h k = same-OutsideMask p other h k
  same_refusal OutOfMemory other valid h k = absurd h
