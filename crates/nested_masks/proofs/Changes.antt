-- What stays when tasks become ready or absent, are linked or are linked no longer.
use Rattle.std.proofs.Common.{◌≡◌, ◌≢◌, ℕ, ◌<◌, Bool, true, false, List, length, set, get_or, Some, None, refl, sym, ap, ◌∙◌, inl, inr}
use Rattle.std.proofs.Common.{arith, length-set, get_or-set_same, get_or-set_other}
use Rattle.std.proofs.lemmas.Bool.{cases_Bool, cases_eq, cases_lt, true≢false}
use Rattle.std.proofs.lemmas.List.{get_or_past}
use Rattle.affinity_mask.specs.ProcSet.{members}
use Rattle.strong_apa.specs.State.{IsState}
use Rattle.strong_apa.proofs.Start.{none_on}
use Rattle.nested_masks.specs.Laminar.{FitsNodes}
use Rattle.nested_masks.specs.Counting.{Joins}
use Rattle.nested_masks.specs.NestedData.{NestedData, IsCounted, state_of, ready_of, linked_of, mask_in}
use Rattle.nested_masks.specs.LaminarStep.{with_waiting, with_linked, with_unlinked, without_task, IsInNoTight}
use Rattle.nested_masks.proofs.Withins.{within_decided}
use Rattle.nested_masks.proofs.Held.{held, held-more, held-else, fits_smaller}

-- the same tasks, of whom others are ready and linked
abbrev pub with_flags : NestedData → List Bool → List Bool → NestedData
with_flags n ready linked = record n { ready = ready; linked = linked }

-- a flag that is set is that of one of the columns' tasks
pub flag_number : (flags : List Bool) (t : ℕ) → get_or flags t false ≡ true → t < length flags
flag_number flags t h = elim (cases_lt t (length flags)) [
  | inl lt ↦ lt
  | inr ge ↦ absurd (true≢false (sym h ∙ get_or_past flags t false ge))
]

-- a flag that is written once
pub joins_set : (flags : List Bool) (t : ℕ) → t < length flags → get_or flags t false ≡ false
    → Joins (λ u. get_or flags u false) t (λ u. get_or (set flags t true) u false)
joins_set flags t lt before = record {
  before = before;
  after = get_or-set_same flags t true false lt;
  others = λ u ne. get_or-set_other flags t u true false ne;
}

pub joins_unset : (flags : List Bool) (t : ℕ) → get_or flags t false ≡ true
    → Joins (λ u. get_or (set flags t false) u false) t (λ u. get_or flags u false)
joins_unset flags t before = record {
  before = get_or-set_same flags t false false (flag_number flags t before);
  after = before;
  others = λ u ne. sym (get_or-set_other flags t u false false ne);
}

-- a flag that is taken away leaves a smaller set
pub unset_smaller : (flags : List Bool) (t u : ℕ) → get_or (set flags t false) u false ≡ true → (u ≢ t) × (get_or flags u false ≡ true)
unset_smaller flags t u h = elim (cases_eq u t) [
  | inl e ↦ let lt = flag_number (set flags t false) u h in
      let here : t < length flags = omega (arith, length-set flags t false) in
      absurd (true≢false (sym h ∙ ap (λ (x : ℕ). get_or (set flags t false) x false) e ∙ get_or-set_same flags t false false here))
  | inr ne ↦ (ne, sym (get_or-set_other flags t u false false ne) ∙ h)
]

module _ (n : NestedData) (ok : IsCounted n) where
  pub state_kept : (ready linked : List Bool) → length ready ≡ length n.ready → IsState (state_of (with_flags n ready linked))
  state_kept ready linked same = record {
    processors = ok.state.processors;
    count = ok.state.count;
    masks_count = ok.state.masks_count;
    ready_count = same ∙ ok.state.ready_count;
    on_count = ok.state.on_count;
    online = ok.state.online;
    masks = ok.state.masks;
    distinct = ok.state.distinct;
    allowed = ok.state.allowed;
    once = ok.state.once;
    linked_ready = λ p t e. absurd (nobody p t e);
  }
    where
      nobody : (p t : ℕ) → get_or (state_of n).on p None ≡ Some t → ⊥
      nobody p t e = let none = none_on n.processors p in cc

  pub in_ready : (t : ℕ) → t < length n.priorities → t < length n.ready
  in_ready t lt = rw ok.state.ready_count lt

  pub in_linked : (t : ℕ) → t < length n.priorities → t < length n.linked
  in_linked t lt = rw ok.count lt

  pub in_masks : (t : ℕ) → t < length n.priorities → t < length n.masks
  in_masks t lt = rw ok.state.masks_count lt

  pub linked_number : (t : ℕ) → linked_of n t ≡ true → t < length n.priorities
  linked_number t h = let lt = flag_number n.linked t h in rw (← ok.count) lt

  -- an absent task is not linked
  pub absent_unlinked : (t : ℕ) → ready_of n t ≡ false → linked_of n t ≡ false
  absent_unlinked t absent = elim (cases_Bool (linked_of n t)) [
    | inl linked ↦ absurd (true≢false (sym (ok.linked_ready t linked) ∙ absent))
    | inr not_linked ↦ not_linked
  ]

  module _ (t : ℕ) (number : t < length n.priorities) where
    pub counted-waiting : IsCounted (with_waiting n t)
    counted-waiting = record {
      state = state_kept (set n.ready t true) n.linked (length-set n.ready t true);
      count = ok.count;
      laminar = ok.laminar;
      linked_ready = λ u h. elim (cases_eq u t) [
        | inl e ↦ rw e (get_or-set_same n.ready t true false (in_ready t number))
        | inr ne ↦ get_or-set_other n.ready t u true false ne ∙ ok.linked_ready u h
      ];
      fits = ok.fits;
    }

    pub counted-absent : linked_of n t ≡ false → IsCounted (record n { ready = set n.ready t false })
    counted-absent not_linked = record {
      state = state_kept (set n.ready t false) n.linked (length-set n.ready t false);
      count = ok.count;
      laminar = ok.laminar;
      linked_ready = λ u h. elim (cases_eq u t) [
        | inl e ↦ absurd (true≢false (sym (rw e at h) ∙ not_linked))
        | inr ne ↦ get_or-set_other n.ready t u false false ne ∙ ok.linked_ready u h
      ];
      fits = ok.fits;
    }

    pub counted-unlinked : IsCounted (with_unlinked n t)
    counted-unlinked = record {
      state = state_kept n.ready (set n.linked t false) refl;
      count = length-set n.linked t false ∙ ok.count;
      laminar = ok.laminar;
      linked_ready = λ u h. ok.linked_ready u (unset_smaller n.linked t u h).1;
      fits = fits_smaller n.masks (linked_of n) (linked_of (with_unlinked n t)) (λ u h. (unset_smaller n.linked t u h).1) ok.fits;
    }

    pub counted-without : IsCounted (without_task n t)
    counted-without = record {
      state = state_kept (set n.ready t false) (set n.linked t false) (length-set n.ready t false);
      count = length-set n.linked t false ∙ ok.count;
      laminar = ok.laminar;
      linked_ready = λ u h. let rest = unset_smaller n.linked t u h in get_or-set_other n.ready t u false false rest.0
          ∙ ok.linked_ready u rest.1;
      fits = fits_smaller n.masks (linked_of n) (linked_of (without_task n t)) (λ u h. (unset_smaller n.linked t u h).1) ok.fits;
    }

    module _ (ready : ready_of n t ≡ true) (not_linked : linked_of n t ≡ false) (free : IsInNoTight n (mask_in n t)) where
      fits_more : FitsNodes n.masks (linked_of (with_linked n t))
      fits_more X node =
          let joins = joins_set n.linked t (in_linked t number) not_linked in
          let bound = ok.fits X node in
          elim (within_decided (mask_in n t) X) [
            | inl within ↦
                let more = held-more n.masks (linked_of n) t (linked_of (with_linked n t)) joins X (in_masks t number) within in
                elim (cases_eq (held n.masks (linked_of n) X) (length (members X))) [
                  | inl full ↦ absurd (free X record { node = node; full = full } within)
                  | inr not_full ↦ omega arith
                ]
            | inr outside ↦ let same = held-else n.masks (linked_of n) t (linked_of (with_linked n t)) joins X outside in omega arith
          ]

      pub counted-linked : IsCounted (with_linked n t)
      counted-linked = record {
        state = state_kept n.ready (set n.linked t true) refl;
        count = length-set n.linked t true ∙ ok.count;
        laminar = ok.laminar;
        linked_ready = λ u h. elim (cases_eq u t) [
          | inl e ↦ ap (ready_of n) e ∙ ready
          | inr ne ↦ ok.linked_ready u (sym (get_or-set_other n.linked t u true false ne) ∙ h)
        ];
        fits = fits_more;
      }
