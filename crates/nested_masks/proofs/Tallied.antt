-- How many linked tasks the mask of each task holds is kept up to date while tasks are linked and are linked no longer.
use Rattle.std.proofs.Common.{◌≡◌, ℕ, ◌<◌, ◌≤◌, Bool, true, false, ◌&&◌, List, length, set, get_or, replicate, nat_lt, refl, sym, ap, ◌∙◌}
use Rattle.std.proofs.Common.{inl, inr, arith}
use Rattle.std.proofs.lemmas.Bool.{and_parts, lt-ltb}
use Rattle.std.proofs.lemmas.List.{length-map, length-replicate, get_or-replicate}
use Rattle.std.proofs.Math.Bool.{and-true}
use Rattle.affinity_mask.specs.ProcSet.{has, members, Within}
use Rattle.task_set.specs.TaskSet.{SetData, IsTaskSet, masks}
use Rattle.strong_apa.proofs.Counts.{count_below, count_below-zero, count_below-bound, count_below-agree, count_below-injection}
use Rattle.strong_apa.specs.Placement.{TaskTest}
use Rattle.nested_masks.specs.Laminar.{mask_at, is_within, tasks_in, IsLaminar, IsTight}
use Rattle.nested_masks.specs.Counting.{Joins, IsHeldBy, HoldMoreAround}
use Rattle.nested_masks.specs.NestedData.{NestedData, IsCounted, ready_of, linked_of, mask_in, nested_start}
use Rattle.nested_masks.specs.NestedText.{linked_count}
use Rattle.nested_masks.specs.LaminarStep.{with_waiting, with_linked, with_unlinked, IsInNoTight}
use Rattle.nested_masks.specs.Views.{IsTallied}
use Rattle.nested_masks.proofs.Withins.{within_decided, is_within-from}
use Rattle.nested_masks.proofs.Held.{held-more, held-else}
use Rattle.nested_masks.proofs.Changes.{joins_set, joins_unset, in_linked, in_masks, counted-linked, counted-unlinked, counted-waiting}
use Rattle.nested_masks.proofs.Changes.{counted-absent}
use Rattle.nested_masks.proofs.Started.{nobody_linked, counted-start}

-- ---- a task joins a set
module _ (masks : List ℕ) (tasks : TaskTest) (t : ℕ) (new : TaskTest) (joins : Joins tasks t new)
    (number : t < length masks) where
  pub held_joined : (before after : List ℕ) → IsHeldBy masks tasks before
      → HoldMoreAround masks (mask_at masks t) (length masks) before after
      → IsHeldBy masks new after
  held_joined before after held more = record {
    count = more.count ∙ held.count;
    each = λ u lt. elim (within_decided (mask_at masks t) (mask_at masks u)) [
      | inl here ↦
          let one = more.around u lt here in
          let was = held.each u lt in
          let joined = held-more masks tasks t new joins (mask_at masks u) number here in
          omega arith
      | inr not_here ↦ more.outside u lt not_here ∙ held.each u lt
          ∙ sym (held-else masks tasks t new joins (mask_at masks u) not_here)
    ];
  }

  -- and leaves it again
  pub held_parted : (before after : List ℕ) → IsHeldBy masks new before
      → HoldMoreAround masks (mask_at masks t) (length masks) after before
      → IsHeldBy masks tasks after
  held_parted before after held more = record {
    count = sym more.count ∙ held.count;
    each = λ u lt. elim (within_decided (mask_at masks t) (mask_at masks u)) [
      | inl here ↦
          let one = more.around u lt here in
          let was = held.each u lt in
          let joined = held-more masks tasks t new joins (mask_at masks u) number here in
          omega arith
      | inr not_here ↦ sym (more.outside u lt not_here) ∙ held.each u lt
          ∙ held-else masks tasks t new joins (mask_at masks u) not_here
    ];
  }

  -- a mask that contains that of a task of the set holds one
  pub held_some : (column : List ℕ) → IsHeldBy masks new column → (u : ℕ) → u < length masks
      → Within (mask_at masks t) (mask_at masks u) → 0 < get_or column u 0
  held_some column held u lt within =
      let was = held.each u lt in
      let joined = held-more masks tasks t new joins (mask_at masks u) number within in
      omega arith

-- ---- the counts that are stored
module _ (n : NestedData) (held : List ℕ) (ok : IsTallied n held) where
  pub tallied_few : (u : ℕ) → u < length n.masks → get_or held u 0 ≤ 1024
  tallied_few u lt =
      let few = ok.counted.state.count in
      let same = ok.counted.state.masks_count in
      let was = ok.each_mask.each u lt in
      let bound = count_below-bound (λ v. linked_of n v && is_within (mask_in n v) (mask_in n u)) (length n.masks) in
      omega arith

  module _ (t : ℕ) (number : t < length n.priorities) where
    pub tight_from : get_or held t 0 ≡ length (members (mask_in n t)) → IsTight n.masks (linked_of n) (mask_in n t)
    tight_from full =
        let lt = in_masks n ok.counted t number in
        record { node = (t, lt, refl); full = sym (ok.each_mask.each t lt) ∙ full }

    pub full_from : IsTight n.masks (linked_of n) (mask_in n t) → get_or held t 0 ≡ length (members (mask_in n t))
    full_from tight = ok.each_mask.each t (in_masks n ok.counted t number) ∙ tight.full

    pub tallied-waiting : IsTallied (with_waiting n t) held
    tallied-waiting = record { counted = counted-waiting n ok.counted t number; each_mask = ok.each_mask }

    pub tallied-absent : linked_of n t ≡ false → IsTallied (record n { ready = set n.ready t false }) held
    tallied-absent not_linked = record { counted = counted-absent n ok.counted t number not_linked; each_mask = ok.each_mask }

    pub tallied-linked : ready_of n t ≡ true → linked_of n t ≡ false → IsInNoTight n (mask_in n t) → (after : List ℕ)
        → HoldMoreAround n.masks (mask_in n t) (length n.masks) held after → IsTallied (with_linked n t) after
    tallied-linked ready not_linked free after more = record {
      counted = counted-linked n ok.counted t number ready not_linked free;
      each_mask = held_joined n.masks (linked_of n) t (linked_of (with_linked n t))
          (joins_set n.linked t (in_linked n ok.counted t number) not_linked)
          (in_masks n ok.counted t number) held after ok.each_mask more;
    }

    module _ (linked : linked_of n t ≡ true) where
      pub tallied_some : (u : ℕ) → u < length n.masks → Within (mask_in n t) (mask_in n u) → 0 < get_or held u 0
      tallied_some = held_some n.masks (linked_of (with_unlinked n t)) t (linked_of n) (joins_unset n.linked t linked)
          (in_masks n ok.counted t number) held ok.each_mask

      pub tallied-unlinked : (after : List ℕ) → HoldMoreAround n.masks (mask_in n t) (length n.masks) after held
          → IsTallied (with_unlinked n t) after
      tallied-unlinked after more = record {
        counted = counted-unlinked n ok.counted t number;
        each_mask = held_parted n.masks (linked_of (with_unlinked n t)) t (linked_of n) (joins_unset n.linked t linked)
            (in_masks n ok.counted t number) held after ok.each_mask more;
      }

-- all masks lie within the processors
pub all_within : (n : NestedData) → IsCounted n → (X : ℕ) → ((q : ℕ) → has X q ≡ nat_lt q n.processors)
    → length (tasks_in n.masks (linked_of n) X) ≡ linked_count n
all_within n ok X all =
    let same = ok.state.masks_count in
    count_below-agree _ _ (length n.masks) (λ u lt.
    let inside = (ok.state.masks u (omega arith)).below in
    rw (is_within-from (mask_in n u) X (λ p h. all p ∙ lt-ltb p n.processors (inside p h))) (and-true (linked_of n u)))
    ∙ ap (λ (m : ℕ). count_below (linked_of n) m) same

-- ---- nobody is linked
count_nobody : (test : ℕ → Bool) (m : ℕ) → ((x : ℕ) → test x ≡ true → ⊥) → count_below test m ≡ 0
count_nobody test m nobody =
    let le = count_below-injection test m (λ x. false) 0 (λ x. x) record {
      below = λ x lt h. absurd (nobody x h);
      passes = λ x lt h. absurd (nobody x h);
      apart = λ x y lx ly hx hy e. e;
    } in
    let none = count_below-zero (λ x. false) in
    omega arith

pub tallied-start : (set : SetData) → IsTaskSet set → IsLaminar (masks set) → IsTallied (nested_start set) (replicate (length set.tasks) 0)
tallied-start set ok laminar =
    let same = length-map set.tasks (λ t. t.mask) in
    record {
      counted = counted-start set ok laminar;
      each_mask = record {
        count = length-replicate (length set.tasks) 0 ∙ sym same;
        each = λ u lt. get_or-replicate (length set.tasks) u 0 0 (rw same at lt)
            ∙ sym (count_nobody _ (length (masks set)) (λ x h. nobody_linked set x (and_parts _ _ h).0));
      };
    }
