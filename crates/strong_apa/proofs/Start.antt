-- The state before anything has happened.
use Rattle.std.proofs.Common.{◌≡◌, ℕ, zero, suc, ◌<◌, ◌≤◌, Bool, false, List, [], length, get_or, take, replicate, Option, Some, None, refl}
use Rattle.std.proofs.Common.{sym, ◌∙◌, inl, inr, arith}
use Rattle.std.proofs.lemmas.List.{take_all, length-map, length-replicate, get_or-map}
use Rattle.std.proofs.lemmas.Bool.{cases_order}
use Rattle.affinity_mask.specs.ProcSet.{all_below}
use Rattle.task_set.specs.TaskSet.{TaskData, SetData, IsTaskSet, priorities, masks}
use Rattle.strong_apa.specs.State.{IsState, start_of}

-- nobody is linked before anything has happened
pub none_on : (n p : ℕ) → get_or {A = Option ℕ} (replicate n None) p None ≡ None
none_on zero p = refl
none_on (suc n) zero = refl
none_on (suc n) (suc p) = none_on n p

-- and nobody is ready
pub none_ready : (n t : ℕ) → get_or (replicate n false) t false ≡ false
none_ready zero t = refl
none_ready (suc n) zero = refl
none_ready (suc n) (suc t) = none_ready n t

no_task : TaskData
no_task = record { name = []; priority = 0; mask = 0 }

pub IsState-start : (set : SetData) → IsTaskSet set → IsState (start_of set)
IsState-start set ok =
    record {
      processors = ok.processors.1;
      count = rw (length-map set.tasks (λ t. t.priority)) ok.count;
      masks_count = length-map _ _ ∙ sym (length-map _ _);
      ready_count = length-replicate _ _ ∙ sym (length-map _ _);
      on_count = length-replicate _ _;
      online = λ p h. h;
      masks = λ t number.
          let below : t < length set.tasks = rw (← length-map set.tasks (λ (x : TaskData). x.mask))
          (omega (arith, length-map set.tasks (λ (x : TaskData). x.mask), length-map set.tasks (λ (x : TaskData). x.priority))) in
          rw (get_or-map (λ (x : TaskData). x.mask) set.tasks t no_task 0 below) (ok.masks t no_task below);
      distinct = λ t u ht hu e.
          let nt : t < length set.tasks = rw (length-map set.tasks (λ (x : TaskData). x.priority)) at ht in
          let nu : u < length set.tasks = rw (length-map set.tasks (λ (x : TaskData). x.priority)) at hu in
          let same : (get_or set.tasks t no_task).priority ≡ (get_or set.tasks u no_task).priority =
          sym (get_or-map (λ (x : TaskData). x.priority) set.tasks t no_task 0 nt) ∙ e
          ∙ get_or-map (λ (x : TaskData). x.priority) set.tasks u no_task 0 nu in
          elim (cases_order t u) [
            | inl equal ↦ equal
            | inr (inl lt) ↦ absurd ((ok.differ t u no_task lt nu).priorities same)
            | inr (inr gt) ↦ absurd ((ok.differ u t no_task gt nt).priorities (sym same))
          ];
      allowed = λ p t e. absurd (nobody p t e);
      once = λ p q t e f. absurd (nobody p t e);
      linked_ready = λ p t e. absurd (nobody p t e);
    }
  where
    nobody : (p t : ℕ) → get_or {A = Option ℕ} (replicate set.processors None) p None ≡ Some t → ⊥
    nobody p t e = let n = none_on set.processors p in cc

-- the columns that the loops of `new` have made
pub start_of-columns : (set : SetData) (t m p online : ℕ) (prios mask_column : List ℕ) (flags : List Bool) (places : List (Option ℕ))
    → length set.tasks ≤ t → t ≤ length set.tasks → m ≡ set.processors → p ≡ m
    → online ≡ all_below m → prios ≡ take t (priorities set) → mask_column ≡ take t (masks set) → flags ≡ replicate t false
    → places ≡ replicate p None
    → start_of set ≡ record { processors = m; priorities = prios; masks = mask_column; online = online; ready = flags; on = places }
start_of-columns set t m p online prios mask_column flags places low high em ep eo e1 e2 e3 e4 =
    let n1 = take_all t (priorities set) (rw (length-map set.tasks (λ (x : TaskData). x.priority)) low) in
    let n2 = take_all t (masks set) (rw (length-map set.tasks (λ (x : TaskData). x.mask)) low) in
    let n3 : t ≡ length set.tasks = omega arith in
    rw (eo, e1, e2, e3, e4, n1, n2, ep, em, n3) refl
