-- A node whose processors are all those of tight nodes lies in a tight node: the linked tasks can be placed, and in a
-- tight node they then have every processor. So the tight nodes within the node fill it with tasks that it holds.
use Rattle.std.proofs.Common.{◌≡◌, ℕ, ◌<◌, Bool, true, false, not, ◌&&◌, nat_eq, length, refl, sym, inl, inr, IsTrue, arith, eq-eqb, ne_eqb}
use Rattle.std.proofs.lemmas.Bool.{cases_lt, and_parts, and_from, and_right}
use Rattle.std.proofs.Math.Bool.{and-true}
use Rattle.affinity_mask.specs.ProcSet.{has, members, Within}
use Rattle.strong_apa.proofs.Counts.{count_below-one_more, count_below-injection}
use Rattle.nested_masks.specs.Laminar.{IsTight, IsNode, is_within}
use Rattle.nested_masks.specs.Counting.{IsPlaced}
use Rattle.nested_masks.specs.NestedData.{NestedData, IsCounted, linked_of, mask_in, state_of}
use Rattle.nested_masks.specs.LaminarStep.{IsInNoTight}
use Rattle.nested_masks.specs.Scans.{IsTightUnion}
use Rattle.nested_masks.proofs.Withins.{is_within-from, within_from, within_same, within_trans, nests}
use Rattle.nested_masks.proofs.Held.{held}
use Rattle.nested_masks.proofs.Hall.{IsMissed, free_member, placed_by_counts}
use Rattle.nested_masks.proofs.Changes.{in_masks, linked_number}
use Rattle.nested_masks.proofs.Placeables.{mask_small}

module _ (n : NestedData) (ok : IsCounted n) where
  -- the members of a node are processors
  pub node_small : (X : ℕ) → IsNode n.masks X → (p : ℕ) → IsTrue (has X p) → p < 64
  node_small X node p h = mask_small (state_of n) ok.state refl node.0 node.1 p (rw node.2 h)

  -- whether the node holds a linked task
  abbrev pub is_held_in : ℕ → ℕ → Bool
  is_held_in X u = linked_of n u && is_within (mask_in n u) X

  module _ (place : ℕ → ℕ) (placed : IsPlaced n.masks (linked_of n) place) where
    held_place : (X u : ℕ) → is_held_in X u ≡ true → IsTrue (has X (place u))
    held_place X u h =
        let parts = and_parts (linked_of n u) (is_within (mask_in n u) X) h in
        within_from _ _ parts.1 (place u) (placed.allowed u parts.0)

    -- each processor of a tight node has one of the tasks that the node holds
    pub tight_filled : (X : ℕ) → IsTight n.masks (linked_of n) X → (p : ℕ) → IsTrue (has X p)
        → IsMissed (is_held_in X) (length n.masks) place p → ⊥
    tight_filled X tight p member missed =
        let one_more = count_below-one_more (has X) (λ q. has X q && not (nat_eq q p)) p 64 (node_small X tight.node p member) member
        (no_p p) (λ q lt ne. rw (ne_eqb q p ne) (sym (and-true (has X q)))) in
        let le = count_below-injection (is_held_in X) (length n.masks) (λ q. has X q && not (nat_eq q p)) 64 place record {
          below = λ u lt h. node_small X tight.node (place u) (held_place X u h);
          passes = λ u lt h. and_from _ _ (held_place X u h) (rw (ne_eqb (place u) p (λ e. missed u lt h e)) refl);
          apart = λ u v lu lv hu hv e. placed.apart u v (and_parts _ _ hu).0 (and_parts _ _ hv).0 e;
        } in
        let full = tight.full in
        omega arith
      where
        no_p : (p : ℕ) → (has X p && not (nat_eq p p)) ≡ false
        no_p p = let same : not (nat_eq p p) ≡ false = rw (eq-eqb p p refl) refl in and_right (has X p) (not (nat_eq p p)) same

    module _ (X : ℕ) (node : IsNode n.masks X) (free : IsInNoTight n X) where
      -- a tight node that has a processor of X lies within X
      tight_within : (p : ℕ) → IsTrue (has X p) → (T : ℕ) → IsTight n.masks (linked_of n) T → IsTrue (has T p) → Within T X
      tight_within p member T tight there =
          let nest = nests n.masks ok.laminar node.0 tight.node.0 node.1 tight.node.1 (p, rw node.2 member, rw tight.node.2 there) in
          elim (rw (node.2, tight.node.2) at nest) [
            | inl within ↦ absurd (free T tight within)
            | inr around ↦ around
          ]

      uncovered : ((p : ℕ) → IsTrue (has X p) → (T : ℕ) × IsTight n.masks (linked_of n) T × IsTrue (has T p)) → ⊥
      uncovered covered = elim (cases_lt (held n.masks (linked_of n) X) (length (members X))) [
        | inl fewer ↦
            let left = free_member (is_held_in X) (length n.masks) place X fewer in
            let T = covered left.0 left.1 in
            tight_filled T.0 T.1 left.0 T.2 (λ u lt h e.
            let parts = and_parts (linked_of n u) (is_within (mask_in n u) T.0) h in
            left.2 u lt (and_from _ _ parts.0 (is_within-from _ _
            (within_trans (mask_in n u) T.0 X (within_from _ _ parts.1) (tight_within left.0 left.1 T.0 T.1 T.2)))) e)
        | inr full ↦ let bound = ok.fits X node in free X record { node = node; full = omega arith } (within_same X)
      ]

  -- a mask that lies in no tight node has a processor that no tight node has
  pub free_outside : (t tight : ℕ) → t < length n.priorities → IsTightUnion n (length n.priorities) tight
      → IsInNoTight n (mask_in n t) → Within (mask_in n t) tight → ⊥
  free_outside t tight number union free within =
      let placed = placed_by_counts n.masks ok.laminar (linked_of n) (λ u h. in_masks n ok u (linked_number n ok u h)) ok.fits in
      uncovered placed.0 placed.1 (mask_in n t) (t, in_masks n ok t number, refl) free (λ p member.
      let at = union.inside p (within p member) in
      (mask_in n at.0, at.2, at.3))

  pub outside_free : (X tight : ℕ) → IsTightUnion n (length n.priorities) tight → (Within X tight → ⊥) → IsInNoTight n X
  outside_free X tight union outside node is_tight within =
      let at = is_tight.node in
      let number = at.1 in
      let same = ok.state.masks_count in
      let covered : Within (mask_in n at.0) tight = union.around at.0 (omega arith) (rw at.2 is_tight) in
      outside (within_trans X node tight within (rw at.2 at covered))
