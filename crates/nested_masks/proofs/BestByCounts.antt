-- The linked tasks are the best placeable set of the ready ones, and the node that keeps a task out certifies it.
use Rattle.std.proofs.Common.{◌≡◌, ◌≢◌, ℕ, ◌<◌, ◌≤◌, true, false, ◌||◌, nat_eq, List, length, get_or, Some, refl, sym, ap, ◌∙◌, inl, inr}
use Rattle.std.proofs.Common.{IsTrue, arith, eq-eqb, ne_eqb}
use Rattle.std.proofs.lemmas.Bool.{cases_Bool, cases_eq, and_parts, true≢false}
use Rattle.std.proofs.Math.Bool.{or-false}
use Rattle.std.proofs.lemmas.Option.{same_Some}
use Rattle.affinity_mask.specs.ProcSet.{has, empty, all_below, Within}
use Rattle.strong_apa.specs.State.{State, task_on, effective_mask, priority_of, is_ready, is_linked}
use Rattle.strong_apa.specs.Placement.{TaskTest, IsSubset, IsPlaceable, IsBetter}
use Rattle.strong_apa.specs.Certificate.{IsCertificate}
use Rattle.strong_apa.proofs.Linked.{place_in, task_on-linked}
use Rattle.strong_apa.proofs.BestOnce.{best_is_unique}
use Rattle.strong_apa.proofs.SameBest.{IsBest-same}
use Rattle.nested_masks.specs.Laminar.{is_within}
use Rattle.nested_masks.specs.Counting.{Joins, IsPlaced}
use Rattle.nested_masks.specs.NestedData.{NestedData, IsNested, KeepsOut, ready_of, linked_of, mask_in, priority_in, state_of}
use Rattle.nested_masks.specs.NestedData.{IsBestByCounts, IsPlacedIn, CertifiesEverywhere, IsTheOnlyBest}
use Rattle.nested_masks.proofs.Withins.{within_from}
use Rattle.nested_masks.proofs.Held.{held-more, held-implies}
use Rattle.nested_masks.proofs.Hall.{hit_decided}
use Rattle.nested_masks.proofs.Covered.{is_held_in, tight_filled}
use Rattle.nested_masks.proofs.Changes.{flag_number, in_masks, linked_number}
use Rattle.nested_masks.proofs.Placeables.{fits_placeable, placeable_fits, effective_whole}

-- a set with one task more
abbrev with_one : TaskTest → ℕ → TaskTest
with_one tasks w u = tasks u || nat_eq u w

joins_one : (tasks : TaskTest) (w : ℕ) → tasks w ≡ false → Joins tasks w (with_one tasks w)
joins_one tasks w before = record {
  before = before;
  after = rw (before, eq-eqb w w refl) refl;
  others = λ u ne. rw (ne_eqb u w ne) (or-false (tasks u));
}

module _ (n : NestedData) (ok : IsNested n) where
  ready_number : (t : ℕ) → ready_of n t ≡ true → t < length n.priorities
  ready_number t h = let lt = flag_number n.ready t h in let count = ok.counted.state.ready_count in omega arith

  linked_mask : (t : ℕ) → linked_of n t ≡ true → t < length n.masks
  linked_mask t h = in_masks n ok.counted t (linked_number n ok.counted t h)

  -- no placeable set is better: with the most urgent task that is in just one of them it would hold too many in a node
  no_better : (other : TaskTest) → IsSubset other (ready_of n) → IsPlaceable (state_of n) other → IsBetter (state_of n) other (linked_of n)
      → ⊥
  no_better other subset placeable better =
      let w = better.task in
      let kept = ok.kept_out w record { ready = subset w better.in_first; not_linked = better.not_in_second } in
      too_many w better.in_first better.not_in_second better.most_urgent kept.0 kept.1
    where
      too_many : (w : ℕ) → other w ≡ true → linked_of n w ≡ false → ((u : ℕ) → other u ≢ linked_of n u → priority_in n w ≤ priority_in n u)
          → (X : ℕ) → KeepsOut n X w → ⊥
      too_many w in_other not_linked most_urgent X keeps =
          let number = in_masks n ok.counted w (ready_number w (subset w in_other)) in
          let joins = joins_one (linked_of n) w not_linked in
          let more = held-more n.masks (linked_of n) w (with_one (linked_of n) w) joins X number keeps.contains in
          let all = held-implies n.masks (with_one (linked_of n) w) other X (λ u lt h within. elim (cases_eq u w) [
            | inl e ↦ ap other e ∙ in_other
            | inr ne ↦ same_urgent u (sym (joins.others u ne) ∙ h) (within_from _ _ within)
          ]) in
          let bound = fits_placeable (state_of n) ok.counted.state refl other placeable X keeps.tight.node in
          let full = keeps.tight.full in
          omega arith
        where
          same_urgent : (u : ℕ) → linked_of n u ≡ true → Within (mask_in n u) X → other u ≡ true
          same_urgent u linked within = elim (cases_Bool (other u)) [
            | inl h ↦ h
            | inr h ↦
                let le = most_urgent u (λ e. true≢false (sym linked ∙ sym e ∙ h)) in
                let lt = keeps.more_urgent u linked within in
                absurd (omega arith)
          ]

  pub best_by_counts : IsBestByCounts n
  best_by_counts = record {
    subset = λ t h. ok.counted.linked_ready t h;
    placeable = placeable_fits (state_of n) ok.counted.state refl ok.counted.laminar (linked_of n) linked_mask ok.counted.fits;
    none_better = no_better;
  }

  pub only_best_by_counts : IsTheOnlyBest n
  only_best_by_counts s tasks masks same_ready best t =
      best_is_unique (state_of n) (ready_of n) (is_linked s) (linked_of n) ready_number
      (IsBest-same (state_of n) s tasks masks (is_ready s) (ready_of n) (is_linked s) (is_linked s) same_ready (λ u. refl) best)
      best_by_counts t

  -- ---- the node that keeps a task out certifies it in every placement
  module _ (X w : ℕ) (keeps : KeepsOut n X w) (s : State) (placed : IsPlacedIn n s) where
    mask_same : (t : ℕ) → effective_mask s t ≡ mask_in n t
    mask_same t = effective_whole s placed.state (placed.masks.online ∙ ap all_below (sym placed.tasks.processors)) t
        ∙ ap (λ (column : List ℕ). get_or column t empty) placed.masks.masks

    priority_same : (t : ℕ) → priority_of s t ≡ priority_in n t
    priority_same t = ap (λ (column : List ℕ). get_or column t 0) placed.tasks.priorities

    -- where a linked task is placed
    abbrev place : ℕ → ℕ
    place u = place_in u s.on

    on_place : (u : ℕ) → linked_of n u ≡ true → task_on s (place u) ≡ Some u
    on_place u h = task_on-linked s u (placed.linked u ∙ h)

    placed_there : IsPlaced n.masks (linked_of n) place
    placed_there = record {
      allowed = λ u h. rw (mask_same u) at (placed.state.allowed (place u) u (on_place u h));
      apart = λ u v hu hv e. same_Some u v (sym (on_place u hu) ∙ ap (task_on s) e ∙ on_place v hv);
    }

    occupied_by : (p : ℕ) → IsTrue (has X p) → (u : ℕ) × (task_on s p ≡ Some u) × (priority_of s u < priority_of s w)
        × Within (effective_mask s u) X
    occupied_by p member = elim (hit_decided (is_held_in n ok.counted X) (length n.masks) place p) [
      | inl hit ↦
          let u = hit.0 in
          let parts = and_parts (linked_of n u) (is_within (mask_in n u) X) hit.2.0 in
          let inside = within_from _ _ parts.1 in (
            u,
            ap (task_on s) (sym hit.2.1) ∙ on_place u parts.0,
            rw (priority_same u, priority_same w) (keeps.more_urgent u parts.0 inside),
            rw (mask_same u) inside,
          )
      | inr missed ↦ absurd (tight_filled n ok.counted place placed_there X keeps.tight p member (λ u lt h e. missed u lt (h, e)))
    ]

    certified : IsCertificate s w X
    certified = record {
      within = rw (mask_same w) keeps.contains;
      occupied = occupied_by;
    }

  pub certifies_everywhere : (X w : ℕ) → KeepsOut n X w → CertifiesEverywhere n X w
  certifies_everywhere X w keeps s placed = certified X w keeps s placed
