-- What stays of a state when an absent task gets another priority, and when a slot is given or becomes free.
use Rattle.std.proofs.Common.{◌==◌, ne_eqb, ◌≡◌, ◌≢◌, ℕ, ◌<◌, Bool, true, false, List, length, set, get_or, sym, ap, ◌∙◌, subst, inl, inr}
use Rattle.std.proofs.Common.{length-set, get_or-set_same, get_or-set_other}
use Rattle.std.proofs.lemmas.Bool.{cases_eq, true≢false}
use Rattle.task_set.specs.declared.event.Event.{Event}
use Rattle.task_set.specs.declared.event.Event.TheVariants.{Arrive, Depart, Tick, Affinity, Offline, Online}
use Rattle.strong_apa.specs.declared.reply.Reply.{Reply}
use Rattle.strong_apa.specs.State.{State, IsState, task_count, is_ready, priority_of, IsMoreUrgent, state_with_mask}
use Rattle.strong_apa.specs.Step.{SchedulerStep}
use Rattle.link_table.specs.Priorities.{state_with_priority, state_with_exchange}
use Rattle.strong_apa.specs.Certified.{HasCertificates}
use Rattle.strong_apa.proofs.Best.{linked_is_best, linked_is_largest}
use Rattle.strong_apa.proofs.Improved.{no_improving_chain}
use Rattle.strong_apa.proofs.KeptByChanges.{kept_by_mask}
use Rattle.strong_apa.proofs.Ranked.{linked_is_as_urgent}
use Rattle.live_core.specs.Live.{LiveData}
use Rattle.live_core.specs.Optimal.{IsOptimal}
use Rattle.live_core.specs.Slots.{AreFreeAbsent, IsEventInUse}
use Rattle.strong_apa.proofs.ByEvents.{ready_then, step_does}

-- ---- certificates
-- all that is proved of links follows from certificates
pub optimal : (s : State) → IsState s → HasCertificates s → IsOptimal s
optimal s ok certificates = record {
  valid = ok;
  certified = certificates;
  unimprovable = no_improving_chain s certificates;
  best = linked_is_best s ok certificates;
  largest = linked_is_largest s ok certificates;
  rank_by_rank = linked_is_as_urgent s ok certificates;
}

-- the priorities of absent tasks change: an absent task is in no certificate
pub kept_by_priorities : (s : State) → IsState s → HasCertificates s → (changed : List ℕ)
    → ((u : ℕ) → is_ready s u ≡ true → get_or changed u 0 ≡ priority_of s u) → HasCertificates (record s { priorities = changed })
kept_by_priorities s ok certificates changed same w h =
    let old = certificates w record { ready = h.ready; not_linked = h.not_linked } in (
      old.0,
      record {
        within = old.1.within;
        occupied = λ q inside.
            let occupant = old.1.occupied q inside in
            let u = occupant.0 in
            let urgent : IsMoreUrgent s u w = occupant.2 in
            (u, occupant.1, rw (same u (ok.linked_ready q u occupant.1), same w h.ready) urgent, occupant.3);
      },
    )

-- whoever is ready is not an absent task
pub ready_is_other : (s : State) (t u : ℕ) → is_ready s t ≡ false → is_ready s u ≡ true → u ≢ t
ready_is_other s t u absent ready same = true≢false (sym ready ∙ ap (is_ready s) same ∙ absent)

pub kept_by_priority : (s : State) → IsState s → HasCertificates s → (t priority : ℕ) → is_ready s t ≡ false
    → HasCertificates (state_with_priority s t priority)
kept_by_priority s ok certificates t priority absent =
    kept_by_priorities s ok certificates (set s.priorities t priority)
    (λ u ready. get_or-set_other s.priorities t u priority 0 (ready_is_other s t u absent ready))

pub kept_by_exchange : (s : State) → IsState s → HasCertificates s → (t u : ℕ) → is_ready s t ≡ false → is_ready s u ≡ false
    → HasCertificates (state_with_exchange s t u)
kept_by_exchange s ok certificates t u absent free =
    let first = set s.priorities t (priority_of s u) in
    kept_by_priorities s ok certificates (set first u (priority_of s t)) (λ v ready.
    get_or-set_other first u v (priority_of s t) 0 (ready_is_other s u v free ready)
    ∙ get_or-set_other s.priorities t v (priority_of s u) 0 (ready_is_other s t v absent ready))

-- ---- a task is admitted
pub certified_after_admit : (s between new : State) (t priority mask : ℕ) → IsState s → HasCertificates s → is_ready s t ≡ false
    → between ≡ state_with_priority s t priority → IsState between → new ≡ state_with_mask between t mask → HasCertificates new
certified_after_admit s between new t priority mask ok certificates absent first ok_between second =
    let certified = subst HasCertificates (sym first) (kept_by_priority s ok certificates t priority absent) in
    let absent_between : is_ready between t ≡ false = ap (λ (x : State). is_ready x t) first ∙ absent in
    subst HasCertificates (sym second) (kept_by_mask between ok_between certified t mask absent_between)

pub count_after_admit : (s between new : State) (t priority mask : ℕ) → between ≡ state_with_priority s t priority
    → new ≡ state_with_mask between t mask → task_count new ≡ task_count s
count_after_admit s between new t priority mask first second =
    ap task_count second ∙ ap task_count first ∙ length-set s.priorities t priority

-- ---- free slots are absent
-- a slot is given
pub free_after_admit : (s : State) (in_use : List Bool) (t : ℕ) → t < length in_use → AreFreeAbsent s in_use
    → AreFreeAbsent s (set in_use t true)
free_after_admit s in_use t number absent u free = elim (cases_eq u t) [
  | inl same ↦ absurd (true≢false (sym (get_or-set_same in_use t true false number) ∙ ap (λ (n : ℕ). get_or (set in_use t true) n false)
      (sym same) ∙ free))
  | inr other ↦ absent u (sym (get_or-set_other in_use t u true false other) ∙ free)
]

-- an absent task's slot becomes free
pub free_after_retire : (s : State) (in_use : List Bool) (t : ℕ) → is_ready s t ≡ false → AreFreeAbsent s in_use
    → AreFreeAbsent s (set in_use t false)
free_after_retire s in_use t gone absent u free = elim (cases_eq u t) [
  | inl same ↦ ap (is_ready s) same ∙ gone
  | inr other ↦ absent u (sym (get_or-set_other in_use t u false false other) ∙ free)
]

-- free slots are absent after each step, since no event is of one
free_after_step : (d : LiveData) (event : Event) (reply : Reply) (new : State) (u : ℕ) → IsState d.links → IsEventInUse d event
    → SchedulerStep d.links event reply new
    → get_or d.in_use u false ≡ false → is_ready d.links u ≡ false → is_ready new u ≡ false
free_after_step d event reply new u ok used step free absent = (step_does d.links ok event reply new step).ready u ∙ stays event used
  where
    other : (t : ℕ) → get_or d.in_use t false ≡ true → (t == u) ≡ false
    other t used = ne_eqb t u (λ e. true≢false (sym used ∙ ap (λ (n : ℕ). get_or d.in_use n false) e ∙ free))

    stays : (event : Event) → IsEventInUse d event → ready_then u (is_ready d.links u) event ≡ false
    stays (Arrive t) used = rw (other t used) absent
    stays (Depart t) used = rw (other t used) absent
    stays (Affinity t mask) used = absent
    stays (Tick units) used = absent
    stays (Offline p) used = absent
    stays (Online p) used = absent

pub free_absent_after_step : (d : LiveData) (event : Event) (reply : Reply) (new : State) → IsState d.links → IsEventInUse d event
    → SchedulerStep d.links event reply new
    → AreFreeAbsent d.links d.in_use → AreFreeAbsent new d.in_use
free_absent_after_step d event reply new ok used step absent u free = free_after_step d event reply new u ok used step free (absent u free)
