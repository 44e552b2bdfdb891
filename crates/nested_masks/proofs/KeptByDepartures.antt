-- Each waiting task is kept out by a node after a departure.
use Rattle.std.proofs.Common.{◌≡◌, ◌≢◌, ℕ, ◌<◌, true, false, length, set, get_or, sym, ap, ◌∙◌, inl, inr, arith, get_or-set_same}
use Rattle.std.proofs.Common.{get_or-set_other}
use Rattle.std.proofs.lemmas.Bool.{cases_eq, true≢false}
use Rattle.affinity_mask.specs.ProcSet.{Within}
use Rattle.nested_masks.specs.Laminar.{IsTight}
use Rattle.nested_masks.specs.Counting.{Joins}
use Rattle.nested_masks.specs.NestedData.{NestedData, IsCounted, KeepsOut, Waits, ready_of, linked_of, mask_in, priority_in}
use Rattle.nested_masks.specs.LaminarStep.{with_linked, without_task, IsInNoTight, IsMostUrgentFree, IsNobodyFree}
use Rattle.nested_masks.proofs.Withins.{within_decided, within_trans}
use Rattle.nested_masks.proofs.Held.{held-more, held-else}
use Rattle.nested_masks.proofs.Changes.{joins_set, joins_unset, unset_smaller, in_masks, in_linked, flag_number, counted-without}
use Rattle.nested_masks.proofs.Kept.{AllKeptOut, keeps_same, keeps_joined, keeps_left, nodes_nest, in_tight_decided}

module _ (n : NestedData) (ok : IsCounted n) (t : ℕ) (number : t < length n.priorities) where
  abbrev left : NestedData
  left = without_task n t

  left_counted : IsCounted left
  left_counted = counted-without n ok t number

  -- who waits once t has left is not t, and is as ready as before
  waited : (w : ℕ) → ready_of left w ≡ true → (w ≢ t) × (ready_of n w ≡ true)
  waited w ready = unset_smaller n.ready t w ready

  -- ---- t had waited
  pub kept-leaving : linked_of n t ≡ false → AllKeptOut n → AllKeptOut left
  kept-leaving not_linked kept w waits =
      let rest = waited w waits.ready in
      let before = kept w record {
        ready = rest.1;
        not_linked = sym (get_or-set_other n.linked t w false false rest.0)
            ∙ waits.not_linked;
      } in
      (before.0, keeps_same n (set n.ready t false) (set n.linked t false) before.0 w before.1 same)
    where
      same : (u : ℕ) → get_or (set n.linked t false) u false ≡ get_or n.linked u false
      same u = elim (cases_eq u t) [
        | inl e ↦ ap (λ (x : ℕ). get_or (set n.linked t false) x false) e ∙ get_or-set_same n.linked t false false (in_linked n ok t number)
            ∙ sym (ap (linked_of n) e ∙ not_linked)
        | inr ne ↦ get_or-set_other n.linked t u false false ne
      ]

  -- ---- t was linked
  module _ (linked : linked_of n t ≡ true) (kept : AllKeptOut n) where
    joins_left : Joins (linked_of left) t (linked_of n)
    joins_left = joins_unset n.linked t linked

    -- a node that is tight once t has left did not hold t
    tight_outside : (X : ℕ) → IsTight n.masks (linked_of left) X → Within (mask_in n t) X → ⊥
    tight_outside X tight within =
        let more = held-more n.masks _ t _ joins_left X (in_masks n ok t number) within in
        let bound = ok.fits X tight.node in
        let full = tight.full in
        omega arith

    -- the node that kept out a waiting task before
    before : (w : ℕ) → Waits left w → (X : ℕ) × KeepsOut n X w
    before w waits =
        let rest = waited w waits.ready in
        kept w record { ready = rest.1; not_linked = sym (get_or-set_other n.linked t w false false rest.0) ∙ waits.not_linked }

    -- a waiting task whose mask lies in a tight node is kept out by a tight node
    still_kept : (w : ℕ) → Waits left w → (Y : ℕ) → IsTight n.masks (linked_of left) Y → Within (mask_in n w) Y
        → (X : ℕ) × KeepsOut left X w
    still_kept w waits Y tight contains = choose (before w waits).0 (before w waits).1
      where
        w_number : w < length n.priorities
        w_number = let lt = flag_number n.ready w (waited w waits.ready).1 in let count = ok.state.ready_count in omega arith

        choose : (X : ℕ) → KeepsOut n X w → (Z : ℕ) × KeepsOut left Z w
        choose X keeps = elim (within_decided (mask_in n t) X) [
          | inl t_in ↦
              let nest : Within Y X = elim (nodes_nest n ok w Y X w_number tight.node keeps.tight.node contains keeps.contains) [
                | inl within ↦ within
                | inr around ↦ absurd (tight_outside Y tight (within_trans (mask_in n t) X Y t_in around))
              ] in (
                Y,
                record {
                  tight = tight;
                  contains = contains;
                  more_urgent = λ u h u_in. keeps.more_urgent u (unset_smaller n.linked t u h).1 (within_trans (mask_in n u) Y X u_in nest);
                },
              )
          | inr t_outside ↦ (X, keeps_left n (set n.ready t false) (set n.linked t false) t X w joins_left t_outside keeps)
        ]

    -- nobody joins
    pub kept-unfilled : IsNobodyFree left → AllKeptOut left
    kept-unfilled nobody w waits = elim (in_tight_decided left left_counted (mask_in n w)) [
      | inl found ↦ still_kept w waits found.0 found.1 found.2
      | inr free ↦ absurd (nobody w record { waits = waits; free = free })
    ]

    -- the most urgent task that can joins
    module _ (w : ℕ) (first : IsMostUrgentFree left w) where
      abbrev filled : NestedData
      filled = with_linked left w

      w_number : w < length n.priorities
      w_number = let lt = flag_number n.ready w (waited w first.free.waits.ready).1 in let count = ok.state.ready_count in omega arith

      joins_w : Joins (linked_of left) w (linked_of filled)
      joins_w = joins_set left.linked w (in_linked left left_counted w w_number) first.free.waits.not_linked

      -- the node that kept w out held t
      held_t : (X : ℕ) → KeepsOut n X w → Within (mask_in n t) X
      held_t X keeps = elim (within_decided (mask_in n t) X) [
        | inl within ↦ within
        | inr outside ↦ absurd (first.free.free X record {
          node = keeps.tight.node;
          full = sym (held-else n.masks _ t _ joins_left X outside) ∙ keeps.tight.full;
        } keeps.contains)
      ]

      -- a node that held t, and holds w in its place
      w_keeps : (v X : ℕ) → KeepsOut n X v → Within (mask_in n t) X → Within (mask_in n w) X → priority_in n w < priority_in n v
          → KeepsOut filled X v
      w_keeps v X keeps t_in w_in urgent = record {
        tight = record {
          node = keeps.tight.node;
          full = held-more n.masks _ w _ joins_w X (in_masks n ok w w_number) w_in
              ∙ sym (held-more n.masks _ t _ joins_left X (in_masks n ok t number) t_in) ∙ keeps.tight.full;
        };
        contains = keeps.contains;
        more_urgent = λ u h u_in. elim (cases_eq u w) [
          | inl e ↦ rw e urgent
          | inr ne ↦ keeps.more_urgent u (unset_smaller n.linked t u (sym (joins_w.others u ne) ∙ h)).1 u_in
        ];
      }

      pub kept-filled : AllKeptOut filled
      kept-filled v waits = elim (in_tight_decided left left_counted (mask_in n v)) [
        | inl found ↦
            let still = still_kept v waited_v found.0 found.1 found.2 in (
              still.0,
              keeps_joined left left.ready (set left.linked w true) w still.0 v joins_w
                  (λ within. first.free.free still.0 still.1.tight within) still.1,
            )
        | inr free ↦ choose (before v waited_v) (before w first.free.waits) (more_urgent free) free
      ]
        where
          v_not_w : v ≢ w
          v_not_w e = true≢false (sym joins_w.after ∙ ap (linked_of filled) (sym e) ∙ waits.not_linked)

          waited_v : Waits left v
          waited_v = record { ready = waits.ready; not_linked = sym (joins_w.others v v_not_w) ∙ waits.not_linked }

          v_number : v < length n.priorities
          v_number = let lt = flag_number n.ready v (waited v waits.ready).1 in let count = ok.state.ready_count in omega arith

          more_urgent : IsInNoTight left (mask_in n v) → priority_in n w < priority_in n v
          more_urgent free = elim (cases_eq (priority_in n w) (priority_in n v)) [
            | inl same ↦ absurd (v_not_w (sym (ok.state.distinct w v w_number v_number same)))
            | inr differ ↦ let le = first.most_urgent v record { waits = waited_v; free = free } in omega arith
          ]

          choose : (X : ℕ) × KeepsOut n X v → (Y : ℕ) × KeepsOut n Y w → priority_in n w < priority_in n v → IsInNoTight left (mask_in n v)
              → (Z : ℕ) × KeepsOut filled Z v
          choose one other urgent free =
              let X = one.0 in
              let Y = other.0 in
              let t_in_Y = held_t Y other.1 in
              elim (within_decided (mask_in n t) X) [
                | inl t_in ↦ elim (nodes_nest n ok t X Y number one.1.tight.node other.1.tight.node t_in t_in_Y) [
                  | inl within ↦ (
                    Y,
                    w_keeps v Y record {
                      tight = other.1.tight;
                      contains = within_trans (mask_in n v) X Y one.1.contains within;
                      more_urgent = λ u h u_in. (let lt = other.1.more_urgent u h u_in in omega arith);
                    } t_in_Y other.1.contains urgent,
                  )
                  | inr around ↦ (X, w_keeps v X one.1 t_in (within_trans (mask_in n w) Y X other.1.contains around) urgent)
                ]
                | inr t_outside ↦ absurd (free X record {
                  node = one.1.tight.node;
                  full = sym (held-else n.masks _ t _ joins_left X t_outside) ∙ one.1.tight.full;
                } one.1.contains)
              ]
