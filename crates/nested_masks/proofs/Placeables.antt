-- Placeable sets of tasks whose masks nest, over all processors.
use Rattle.std.proofs.Common.{◌≡◌, ℕ, ◌<◌, true, length, refl, sym, ap, ◌∙◌, inl, inr, IsTrue, arith}
use Rattle.std.proofs.lemmas.Bool.{cases_lt, lt-ltb}
use Rattle.std.proofs.lemmas.List.{get_or_past, length-map}
use Rattle.affinity_mask.specs.ProcSet.{has, empty, all_below, Within}
use Rattle.affinity_mask.proofs.Sets.{has-all_below, intersection-all_below}
use Rattle.affinity_mask.proofs.Meetings.{no_member}
use Rattle.strong_apa.specs.State.{State, IsState, effective_mask, mask_of, start_of}
use Rattle.strong_apa.specs.Placement.{TaskTest, IsPlacement, IsPlaceable}
use Rattle.strong_apa.proofs.Start.{IsState-start}
use Rattle.nested_masks.specs.Laminar.{IsLaminar, FitsNodes}
use Rattle.nested_masks.specs.Counting.{IsPlaced}
use Rattle.nested_masks.specs.Laws.{PlaceableByCounts}
use Rattle.nested_masks.proofs.Hall.{placed_by_counts, fits_placed}

module _ (s : State) (ok : IsState s) (all : s.online ≡ all_below s.processors) where
  -- the members of a mask are processors
  pub mask_small : (t : ℕ) → t < length s.masks → (p : ℕ) → IsTrue (has (mask_of s t) p) → p < 64
  mask_small t lt p h =
      let below = (ok.masks t (rw (← ok.masks_count) lt)).below p h in
      let few = ok.processors in
      omega arith

  mask_online : (t : ℕ) → Within (mask_of s t) (all_below s.processors)
  mask_online t p h = elim (cases_lt t (length s.masks)) [
    | inl lt ↦ rw (has-all_below s.processors p) (lt-ltb p s.processors ((ok.masks t (rw (← ok.masks_count) lt)).below p h))
    | inr ge ↦ absurd (no_member (mask_of s t) p (get_or_past s.masks t empty ge) h)
  ]

  -- while all processors are on line a task may run on those of its mask
  pub effective_whole : (t : ℕ) → effective_mask s t ≡ mask_of s t
  effective_whole t = rw all (intersection-all_below (mask_of s t) s.processors (mask_online t))

  pub placement_from : (tasks : TaskTest) (place : ℕ → ℕ) → IsPlaced s.masks tasks place → IsPlacement s tasks place
  placement_from tasks place placed = record {
    allowed = λ t h. ap (λ (X : ℕ). has X (place t)) (effective_whole t) ∙ placed.allowed t h;
    apart = placed.apart;
  }

  pub placed_from : (tasks : TaskTest) (place : ℕ → ℕ) → IsPlacement s tasks place → IsPlaced s.masks tasks place
  placed_from tasks place placement = record {
    allowed = λ t h. ap (λ (X : ℕ). has X (place t)) (sym (effective_whole t)) ∙ placement.allowed t h;
    apart = placement.apart;
  }

  -- a placeable set fits the nodes, and where the masks nest a set that fits the nodes is placeable
  pub fits_placeable : (tasks : TaskTest) → IsPlaceable s tasks → FitsNodes s.masks tasks
  fits_placeable tasks placeable X node =
      fits_placed s.masks tasks placeable.0 X (λ p h. mask_small node.0 node.1 p (rw node.2 h)) (placed_from tasks placeable.0 placeable.1)

  pub placeable_fits : IsLaminar s.masks → (tasks : TaskTest) → ((t : ℕ) → tasks t ≡ true → t < length s.masks) → FitsNodes s.masks tasks
      → IsPlaceable s tasks
  placeable_fits laminar tasks numbers fits =
      let placed = placed_by_counts s.masks laminar tasks numbers fits in
      (placed.0, placement_from tasks placed.0 placed.1)

pub placeable_by_counts : PlaceableByCounts
placeable_by_counts set ok laminar tasks numbers =
    let state = IsState-start set ok in (
      fits_placeable (start_of set) state refl tasks,
      placeable_fits (start_of set) state refl laminar tasks (λ t h. rw (length-map set.tasks (λ t. t.mask)) (numbers t h)),
    )
