-- What an event leaves of the weak scheduler, as of any scheduler that jobs are driven with.
use Rattle.std.proofs.Common.{◌≡◌, ℕ, ◌+◌, ◌<◌, ◌≤◌, Bool, true, false, List, [], ◌∷◌, ◌++◌, length, set, get_or, Result, Ok, Err, OnOk}
use Rattle.std.proofs.Common.{refl, ap, subst, ◌∙◌, arith}
use Rattle.std.proofs.lemmas.List.{get_or-set_same, get_or-set_other}
use Rattle.task_set.specs.declared.event.Event.{Event}
use Rattle.task_set.specs.declared.event.Event.TheVariants.{Arrive, Depart, Tick}
use Rattle.strong_apa.specs.State.{State, IsState, task_count}
use Rattle.weak_apa.specs.Compared.{IsWeakRun}
use Rattle.weak_apa.specs.Step.{Follows}
use Rattle.weak_apa.proofs.Followed.{weak_step_follows}
use Rattle.weak_apa.proofs.Unique.{weak_step_keeps_state}
use Rattle.job_release.specs.EventOrder.{event_of}
use Rattle.job_release.specs.Moments.{units_of}
use Rattle.job_release.specs.Scheduler.{Keeps, Readies, TimePasses}
use Rattle.job_release.specs.WeakHistory.{WeakHistoryData, IsWeakHistory, Continues, state_now, weak_seen}
use Rattle.job_release.specs.WeakRuns.{last_state, state_then, elapsed_at}
use Rattle.job_release.proofs.WeakHistories.{elapsed_push, then_before, then_passed}

-- the state after all events is one
last_is_state : (s : State) (events : List Event) (states : List State) → IsState s → IsWeakRun s events states
    → IsState (last_state s states)
last_is_state s [] [] ok run = ok
last_is_state s [] (after ∷ states) ok run = absurd run
last_is_state s (event ∷ events) [] ok run = absurd run
last_is_state s (event ∷ events) (after ∷ states) ok run =
    last_is_state after events states (weak_step_keeps_state s event after ok run.0) run.1

pub now_is_state : (history : WeakHistoryData) → IsWeakHistory history → IsState (state_now history)
now_is_state history valid = last_is_state history.start history.events history.states valid.begins valid.run

module _ (old new : WeakHistoryData) (event : Event) (valid : IsWeakHistory old) (continues : Continues old event new) where
  ok : IsState (state_now old)
  ok = now_is_state old valid

  pub follows : Follows (state_now old) event (state_now new)
  follows = weak_step_follows (state_now old) event (state_now new) ok continues.step

  pub elapsed_more : elapsed_at new.events ≡ elapsed_at old.events + units_of event
  elapsed_more = ap (λ (events : List Event). elapsed_at events) continues.events ∙ elapsed_push old.events event

  states_are : (x : ℕ) → state_then new.start new.events new.states x
      ≡ state_then old.start (old.events ++ event ∷ []) (old.states ++ state_now new ∷ []) x
  states_are x =
      ap (λ (s : State). state_then s new.events new.states x) continues.start
      ∙ ap (λ (events : List Event). state_then old.start events new.states x) continues.events
      ∙ ap (λ (states : List State). state_then old.start (old.events ++ event ∷ []) states x) continues.states

  past : (x : ℕ) → x < elapsed_at old.events → state_then new.start new.events new.states x ≡ state_then old.start old.events old.states x
  past x before = states_are x ∙ then_before old.start old.events old.states event (state_now new) x valid.run before

  pub passed : (x : ℕ) → elapsed_at old.events ≤ x → x < elapsed_at new.events → state_then new.start new.events new.states x
      ≡ state_now old
  passed x from before =
      let more = elapsed_more in
      states_are x ∙ then_passed old.start old.events old.states event (state_now new) x valid.run from (omega arith)

  pub keeps : task_count (state_now new) ≡ task_count (state_now old) → Keeps (weak_seen old) (weak_seen new)
  keeps tasks = record {
    start = continues.start;
    past = past;
    room = omega arith;
    state = weak_step_keeps_state (state_now old) event (state_now new) ok continues.step;
    tasks = tasks;
  }

-- ---- a task becomes ready or absent
module _ (old new : WeakHistoryData) (t : ℕ) (valid : IsWeakHistory old) (number : t < task_count (state_now old)) where
  within : t < length (state_now old).ready
  within = let count = (now_is_state old valid).ready_count in omega arith

  readies : (event : Event) (flag : Bool) → event ≡ event_of t flag → Continues old event new → units_of event ≡ 0
      → task_count (state_now new) ≡ task_count (state_now old)
      → (state_now new).ready ≡ set (state_now old).ready t flag → Readies t flag (weak_seen old) (weak_seen new)
  readies event flag is continues none tasks ready = record {
    keeps = keeps old new event valid continues tasks;
    elapsed = elapsed_more old new event valid continues
        ∙ (let same : elapsed_at old.events + units_of event ≡ elapsed_at old.events = omega (arith, none) in same);
    given = subst (λ (e : Event). new.events ≡ old.events ++ e ∷ []) is continues.events;
    own = ap (λ (list : List Bool). get_or list t false) ready ∙ get_or-set_same (state_now old).ready t flag false within;
    others = λ u other. ap (λ (list : List Bool). get_or list u false) ready ∙ get_or-set_other (state_now old).ready t u flag false other;
  }

  pub arrives : Continues old (Arrive t) new → Readies t true (weak_seen old) (weak_seen new)
  arrives continues =
      let kept = follows old new (Arrive t) valid continues in
      readies (Arrive t) true refl continues refl (ap (λ (s : State). task_count s) kept) (ap (λ (s : State). s.ready) kept)

  pub departs : Continues old (Depart t) new → Readies t false (weak_seen old) (weak_seen new)
  departs continues =
      let kept = follows old new (Depart t) valid continues in
      readies (Depart t) false refl continues refl (ap (λ (s : State). task_count s) kept) (ap (λ (s : State). s.ready) kept)

-- ---- time passes
pub passes : (old new : WeakHistoryData) (units : ℕ) → IsWeakHistory old → Continues old (Tick units) new
    → TimePasses units (weak_seen old) (weak_seen new)
passes old new units valid continues = record {
  keeps = keeps old new (Tick units) valid continues (ap (λ (s : State). task_count s) continues.step);
  elapsed = elapsed_more old new (Tick units) valid continues;
  given = continues.events;
  same = continues.step;
  passed = passed old new (Tick units) valid continues;
}

pub on_ok : {A E P Q : Type 0} (result : Result A E) → (P → Q) → OnOk result P → OnOk result Q
on_ok (Ok x) f p = f p
on_ok (Err e) f p = tt
