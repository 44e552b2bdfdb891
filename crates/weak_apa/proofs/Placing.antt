-- A waiting task goes on a processor of its effective mask: who is where then, who waits then, and what stays stable.
use Rattle.std.proofs.Common.{◌≡◌, ◌≢◌, ℕ, ◌<◌, [], ◌∷◌, Some, None, refl, sym, ap, ◌∙◌, inl, inr, ◌⊎◌, IsTrue, arith}
use Rattle.std.proofs.lemmas.Bool.{cases_eq, cases_lt}
use Rattle.std.proofs.lemmas.Option.{same_Some}
use Rattle.std.proofs.lemmas.List.FromFn.{get_or-map-range_with_len}
use Rattle.affinity_mask.specs.ProcSet.{has}
use Rattle.strong_apa.specs.State.{State, IsState, IsWaiting, IsMoreUrgent, task_on, priority_of, effective_mask}
use Rattle.strong_apa.specs.Chain.{IsChainOf, IsSimple, occupant_after_shift, state_after_shift}
use Rattle.strong_apa.proofs.Linked.{not_linked-from_on, not_on, linked_number, occupied_number}
use Rattle.strong_apa.proofs.Masks.{effective_mask_below}
use Rattle.strong_apa.proofs.Shifts.{occupant-first, occupant-later, task_on-state_after_shift}
use Rattle.strong_apa.proofs.Unique.{ready_number}
use Rattle.strong_apa.proofs.KeptByShifts.{waited}
use Rattle.weak_apa.specs.Stable.{IsWeaklyStable, IsStableBut, IsStableBeside, IsKeptOut, IsToBePlaced}
use Rattle.weak_apa.specs.Step.{IsMostUrgentAt}

pub one_is_simple : (p : ℕ) → IsSimple (p ∷ [])
one_is_simple p i j d lt fits = absurd (omega arith)

-- a task that waits and is kept out, beside others that are
pub stable_waiting : (s : State) (x : ℕ) → IsStableBut s x → IsKeptOut s x → IsWeaklyStable s
stable_waiting s x others kept_out w waiting = elim (cases_eq w x) [
  | inl same ↦ rw same kept_out
  | inr other ↦ others w waiting other
]

module _ (s : State) (ok : IsState s) (x p : ℕ) (waits : IsWaiting s x) (there : IsTrue (has (effective_mask s x) p)) where
  abbrev after : State
  after = state_after_shift s x (p ∷ [])

  is_chain : IsChainOf s x (p ∷ []) p
  is_chain = (there, refl)

  pub on_place : task_on after p ≡ Some x
  on_place =
      get_or-map-range_with_len (occupant_after_shift s (Some x) (p ∷ [])) 0 s.processors p p None (effective_mask_below s ok x p there)
      (omega arith)
      ∙ occupant-first s (Some x) p []

  pub elsewhere : (q u : ℕ) → q ≢ p → task_on s q ≡ Some u → task_on after q ≡ Some u
  elsewhere q u ne on =
      get_or-map-range_with_len (occupant_after_shift s (Some x) (p ∷ [])) 0 s.processors q q None (occupied_number s q u ok on)
      (omega arith)
      ∙ occupant-later s (Some x) p [] q ne ∙ on

  -- who waits then is not x, and waited before or was on p
  waiting_then : (w : ℕ) → IsWaiting after w → (w ≢ x) × (IsWaiting s w ⊎ (task_on s p ≡ Some w))
  waiting_then w waiting = waited s ok x waits (p ∷ []) p is_chain (one_is_simple p) w waiting

  -- a task other than the occupant of p waited before
  waited_before : (w : ℕ) → IsWaiting after w → task_on s p ≢ Some w → IsWaiting s w
  waited_before w waiting other = elim (waiting_then w waiting).1 [
    | inl before ↦ before
    | inr here ↦ absurd (other here)
  ]

  pub stable_on_idle : IsStableBut s x → task_on s p ≡ None → IsWeaklyStable after
  stable_on_idle others idle w waiting q inside =
      let before = waited_before w waiting (λ here. cc) in
      let runs = others w before (waiting_then w waiting).0 q inside in
      (runs.0, elsewhere q runs.0 (λ same. nobody_there runs.0 (sym (ap (task_on s) same) ∙ runs.1)) runs.1, runs.2)
    where
      nobody_there : (u : ℕ) → task_on s p ≢ Some u
      nobody_there u on = cc

  -- where p was occupied by a less urgent task
  module _ (out : ℕ) (on : task_on s p ≡ Some out) where
    pub displaced_waits : IsWaiting after out
    displaced_waits = record {
      ready = ok.linked_ready p out on;
      not_linked = not_linked-from_on after out nowhere;
    }
      where
        nowhere : (q : ℕ) → task_on after q ≢ Some out
        nowhere q e =
            let came = task_on-state_after_shift s x (p ∷ []) q out e in
            elim (cases_eq q p) [
              | inl same ↦ not_on s p x waits.not_linked
                  (on ∙ ap (λ (n : ℕ). Some n) (sym (same_Some x out (sym (occupant-first s (Some x) p []) ∙ rw same at came))))
              | inr ne ↦ ne (ok.once q p out (sym (occupant-later s (Some x) p [] q ne) ∙ came) on)
            ]

    pub stable_displacing : IsStableBut s x → IsMoreUrgent s x out → IsToBePlaced after out
    stable_displacing others less = record {
      number = linked_number s p out ok on;
      waits = displaced_waits;
      others = λ w waiting other q inside.
          let before = waited_before w waiting (λ here. other (same_Some w out (sym here ∙ on))) in
          let runs = others w before (waiting_then w waiting).0 q inside in
          elim (cases_eq q p) [
            | inl same ↦ (
              x,
              rw same on_place,
              (let same_out : runs.0 ≡ out = same_Some runs.0 out (sym runs.1 ∙ (rw same on)) in
                  let more_urgent = runs.2 in
                  let then : priority_of s out < priority_of s w = rw (← same_out) more_urgent in
                  omega arith),
            )
            | inr ne ↦ (runs.0, elsewhere q runs.0 ne runs.1, runs.2)
          ];
    }

  -- where p was idle, and x is the most urgent waiting task that may run there
  pub stable_filled : IsStableBeside s p → IsMostUrgentAt s p x → task_on s p ≡ None → IsWeaklyStable after
  stable_filled beside most_urgent idle w waiting q inside =
      let before = waited_before w waiting (λ here. cc) in
      let other = (waiting_then w waiting).0 in
      elim (cases_eq q p) [
        | inl same ↦ (x, rw same on_place, first w before other (rw same at inside))
        | inr ne ↦ let runs = beside w q before inside ne in (runs.0, elsewhere q runs.0 ne runs.1, runs.2)
      ]
    where
      first : (w : ℕ) → IsWaiting s w → w ≢ x → IsTrue (has (effective_mask s w) p) → priority_of s x < priority_of s w
      first w before other enters =
          let le = most_urgent.most_urgent w before enters in
          elim (cases_lt (priority_of s x) (priority_of s w)) [
            | inl lt ↦ lt
            | inr ge ↦ absurd (other (ok.distinct w x (ready_number s ok w before.ready) (ready_number s ok x waits.ready) (omega arith)))
          ]
