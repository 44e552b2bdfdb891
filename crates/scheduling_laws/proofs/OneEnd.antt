-- Who is ready, with which mask, and which processors are on line, follow event by event from the events of the task, or of the
-- processor. The linked tasks are the best set of the ready ones, so they follow as well.
use Rattle.std.proofs.Common.{◌≡◌, ℕ, Bool, true, false, ◌&&◌, ◌==◌, List, [], ◌∷◌, length, set, map, filter, fold, if◌then◌else◌, refl}
use Rattle.std.proofs.Common.{sym, ap, ◌∙◌, subst, inl, inr, arith, eq-eqb}
use Rattle.std.proofs.Math.Seq.{take-length}
use Rattle.std.proofs.lemmas.Bool.{cases_Bool}
use Rattle.std.proofs.lemmas.List.Elements.{All-head, All-tail}
use Rattle.affinity_mask.specs.ProcSet.{has}
use Rattle.affinity_mask.proofs.Sets.{has-intersection}
use Rattle.task_set.specs.TaskSet.{SetData}
use Rattle.task_set.specs.declared.event.Event.{Event}
use Rattle.task_set.specs.declared.event.Event.TheVariants.{Arrive, Depart, Tick, Affinity, Offline, Online}
use Rattle.strong_apa.specs.declared.reply.Entry.{Entry}
use Rattle.strong_apa.specs.State.{State, IsState, start_of, is_ready, is_linked, mask_of, effective_mask}
use Rattle.strong_apa.specs.History.{IsLegalFrom, effect_of, state_after}
use Rattle.strong_apa.proofs.BestOnce.{best_is_unique}
use Rattle.strong_apa.proofs.ByEvents.{ready_then, mask_then, online_then, step_does}
use Rattle.strong_apa.proofs.Histories.{IsState-state_after}
use Rattle.strong_apa.proofs.SameTasks.{same_tasks-history}
use Rattle.strong_apa.proofs.Start.{IsState-start}
use Rattle.strong_apa.proofs.Steps.{step_keeps_state}
use Rattle.strong_apa.proofs.Unique.{ready_number}
use Rattle.strong_apa.specs.CertificateLaws.{LinkedIsBest}
use Rattle.strong_apa.proofs.SameBest.{priority_of-same}
use Rattle.history_laws.proofs.LegalHistories.{legal_is_best-from}
use Rattle.history_laws.proofs.Starts.{nobody_ready}
use Rattle.scheduling_laws.specs.OneEnd.{is_of_task, is_of_processor, events_that, events_by, HaveSameEvents, AreBy, SameEventsHaveOneEnd}
use Rattle.scheduling_laws.specs.OneEnd.{CallersGiveSameEvents}
use Rattle.scheduling_laws.proofs.BestElsewhere.{IsBest-on}

-- ---- what a history makes of them, by their own events alone
-- an event that does not pass changes nothing
fold_filter : {B : Type 0} (f : B → Event → B) (test : Event → Bool) → ((b : B) (event : Event) → test event ≡ false → f b event ≡ b)
    → (b : B) (events : List Event) → fold f b events ≡ fold f b (filter test events)
fold_filter f test keeps b [] = refl
fold_filter f test keeps b (event ∷ events) = elim (cases_Bool (test event)) [
  | inl passes ↦ rw passes (fold_filter f test keeps (f b event) events)
  | inr fails ↦ rw (fails, keeps b event fails) (fold_filter f test keeps b events)
]

ready_keeps : (t : ℕ) (b : Bool) (event : Event) → is_of_task t event ≡ false → ready_then t b event ≡ b
ready_keeps t b (Arrive u) other = rw other refl
ready_keeps t b (Depart u) other = rw other refl
ready_keeps t b (Affinity u mask) other = refl
ready_keeps t b (Tick units) other = refl
ready_keeps t b (Offline p) other = refl
ready_keeps t b (Online p) other = refl

mask_keeps : (t X : ℕ) (event : Event) → is_of_task t event ≡ false → mask_then t X event ≡ X
mask_keeps t X (Affinity u mask) other = rw other refl
mask_keeps t X (Arrive u) other = refl
mask_keeps t X (Depart u) other = refl
mask_keeps t X (Tick units) other = refl
mask_keeps t X (Offline p) other = refl
mask_keeps t X (Online p) other = refl

online_keeps : (p : ℕ) (b : Bool) (event : Event) → is_of_processor p event ≡ false → online_then p b event ≡ b
online_keeps p b (Offline q) other = rw other refl
online_keeps p b (Online q) other = rw other refl
online_keeps p b (Arrive t) other = refl
online_keeps p b (Depart t) other = refl
online_keeps p b (Affinity t mask) other = refl
online_keeps p b (Tick units) other = refl

abbrev events_of : List Entry → List Event
events_of history = map (λ (entry : Entry). entry.event) history

record Did (s : State) (history : List Entry) : Type 0 where
  ready : (t : ℕ) → is_ready (state_after s history) t ≡ fold (ready_then t) (is_ready s t) (events_of history)
  mask : (t : ℕ) → mask_of (state_after s history) t ≡ fold (mask_then t) (mask_of s t) (events_of history)
  online : (p : ℕ) → has (state_after s history).online p ≡ fold (online_then p) (has s.online p) (events_of history)

history_did : (s : State) (history : List Entry) → IsState s → IsLegalFrom s history → Did s history
history_did s [] ok legal = record { ready = λ t. refl; mask = λ t. refl; online = λ p. refl }
history_did s (entry ∷ rest) ok legal =
    let next = effect_of s entry in
    let here = step_does s ok entry.event entry.reply next legal.0 in
    let later = history_did next rest (step_keeps_state s entry.event entry.reply next ok legal.0) legal.1 in
    record {
      ready = λ t. later.ready t ∙ ap (λ (b : Bool). fold (ready_then t) b (events_of rest)) (here.ready t);
      mask = λ t. later.mask t ∙ ap (λ (X : ℕ). fold (mask_then t) X (events_of rest)) (here.mask t);
      online = λ p. later.online p ∙ ap (λ (b : Bool). fold (online_then p) b (events_of rest)) (here.online p);
    }

-- ---- the end
module _ (start : State) (one other : List Entry) (ok : IsState start) (legal : IsLegalFrom start one) (also : IsLegalFrom start other)
    (same : HaveSameEvents one other) where
  abbrev end : State
  end = state_after start one

  abbrev end' : State
  end' = state_after start other

  same_ready : (t : ℕ) → is_ready end t ≡ is_ready end' t
  same_ready t =
      (history_did start one ok legal).ready t ∙ fold_filter (ready_then t) (is_of_task t) (ready_keeps t) (is_ready start t)
      (events_of one)
      ∙ ap (λ (events : List Event). fold (ready_then t) (is_ready start t) events) (same.of_task t)
      ∙ sym ((history_did start other ok also).ready t ∙ fold_filter (ready_then t) (is_of_task t) (ready_keeps t) (is_ready start t)
      (events_of other))

  same_mask : (t : ℕ) → mask_of end t ≡ mask_of end' t
  same_mask t =
      (history_did start one ok legal).mask t ∙ fold_filter (mask_then t) (is_of_task t) (mask_keeps t) (mask_of start t) (events_of one)
      ∙ ap (λ (events : List Event). fold (mask_then t) (mask_of start t) events) (same.of_task t)
      ∙ sym ((history_did start other ok also).mask t ∙ fold_filter (mask_then t) (is_of_task t) (mask_keeps t) (mask_of start t)
      (events_of other))

  same_online : (p : ℕ) → has end.online p ≡ has end'.online p
  same_online p =
      (history_did start one ok legal).online p ∙ fold_filter (online_then p) (is_of_processor p) (online_keeps p) (has start.online p)
      (events_of one)
      ∙ ap (λ (events : List Event). fold (online_then p) (has start.online p) events) (same.of_processor p)
      ∙ sym ((history_did start other ok also).online p ∙ fold_filter (online_then p) (is_of_processor p) (online_keeps p)
      (has start.online p) (events_of other))

  same_effective : (t p : ℕ) → has (effective_mask end' t) p ≡ has (effective_mask end t) p
  same_effective t p =
      has-intersection (mask_of end' t) end'.online p
      ∙ ap (λ (X : ℕ). has X p && has end'.online p) (sym (same_mask t))
      ∙ ap (λ (b : Bool). has (mask_of end t) p && b) (sym (same_online p))
      ∙ sym (has-intersection (mask_of end t) end.online p)

  same_linked : LinkedIsBest end → LinkedIsBest end' → (t : ℕ) → is_linked end t ≡ is_linked end' t
  same_linked best best' =
      let tasks = same_tasks-history start one in
      let tasks' = same_tasks-history start other in
      best_is_unique end' (is_ready end') (is_linked end) (is_linked end') (ready_number end' (IsState-state_after start other ok also))
      (IsBest-on end end' (is_ready end) (is_ready end') (is_linked end) (record {
        priority = λ t h. priority_of-same start end' tasks' t ∙ sym (priority_of-same start end tasks t);
        mask = λ t h p. same_effective t p;
      }) same_ready best) best'

-- after a legal history the linked tasks are the best set
best_at_end : (set : SetData) (history : List Entry) → IsState (start_of set) → IsLegalFrom (start_of set) history
    → LinkedIsBest (state_after (start_of set) history)
best_at_end set history ok legal =
    subst (λ (h : List Entry). LinkedIsBest (state_after (start_of set) h)) (take-length history)
    (legal_is_best-from (start_of set) history ok (nobody_ready set) legal (length history) (omega arith))

pub same_events_have_one_end : SameEventsHaveOneEnd
same_events_have_one_end set one other valid legal also same t =
    let ok = IsState-start set valid in (
      same_ready (start_of set) one other ok legal also same t,
      same_linked (start_of set) one other ok legal also same (best_at_end set one ok legal) (best_at_end set other ok also) t,
    )

-- ---- events by their callers
events_by_caller : (test : Event → Bool) (caller : ℕ) (history : List Entry) → AreBy test caller history
    → events_that test history ≡ filter test (events_by caller history)
events_by_caller test caller [] are = refl
events_by_caller test caller (entry ∷ rest) are =
    let later = events_by_caller test caller rest (All-tail (λ (e : Entry). test e.event ≡ true → e.caller ≡ caller) entry rest are) in
    elim (cases_Bool (test entry.event)) [
      | inl passes ↦ rw (
        passes,
        eq-eqb entry.caller caller
            (All-head (λ (e : Entry). test e.event ≡ true → e.caller ≡ caller) entry rest are passes),
        passes,
      )
          (ap (λ (l : List Event). entry.event ∷ l) later)
      | inr fails ↦ rw fails (later ∙ skipped (entry.caller == caller) fails)
    ]
  where
    skipped : (b : Bool) → test entry.event ≡ false → filter test (events_by caller rest)
        ≡ filter test (map (λ (e : Entry). e.event) (if b then entry ∷ filter (λ (e : Entry). e.caller == caller) rest
        else filter (λ (e : Entry). e.caller == caller) rest))
    skipped true fails = rw fails refl
    skipped false fails = refl

pub callers_give_same_events : CallersGiveSameEvents
callers_give_same_events of_task of_processor one other callers callers' same = record {
  of_task = λ t. events_by_caller (is_of_task t) (of_task t) one (callers.tasks t) ∙ ap (filter (is_of_task t)) (same (of_task t))
      ∙ sym (events_by_caller (is_of_task t) (of_task t) other (callers'.tasks t));
  of_processor = λ p. events_by_caller (is_of_processor p) (of_processor p) one (callers.processors p)
      ∙ ap (filter (is_of_processor p)) (same (of_processor p))
      ∙ sym (events_by_caller (is_of_processor p) (of_processor p) other (callers'.processors p));
}
