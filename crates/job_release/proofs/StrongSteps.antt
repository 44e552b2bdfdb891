-- What an event leaves of the strong scheduler.
use Rattle.std.proofs.Common.{◌≡◌, ℕ, ◌+◌, true, false, List, [], ◌∷◌, ◌++◌, length, map, All, refl, sym, ap, ◌∙◌, subst, arith}
use Rattle.std.proofs.Common.{length-append}
use Rattle.std.proofs.lemmas.List.{map-append}
use Rattle.std.proofs.lemmas.List.Elements.{All-push}
use Rattle.task_set.specs.declared.event.Event.{Event}
use Rattle.task_set.specs.declared.event.Event.TheVariants.{Arrive, Depart, Tick}
use Rattle.strong_apa.specs.declared.reply.Entry.{Entry}
use Rattle.strong_apa.specs.State.{State}
use Rattle.strong_apa.proofs.SameTasks.{same_tasks-step, same_count}
use Rattle.sched_core.specs.CoreData.{CoreData, IsCore, Applied, entry_of}
use Rattle.job_release.specs.Driven.{IsJobEvent}
use Rattle.job_release.specs.Moments.{elapsed, units_of, state_of_moment}
use Rattle.job_release.specs.Scheduler.{Keeps, Readies, TimePasses}
use Rattle.job_release.specs.Strong.{IsOpen, strong_seen}
use Rattle.job_release.proofs.Moments.{elapsed_push, state_before, state_from, state_with_tick}
use Rattle.job_release.proofs.Readied.{ready_arrived, ready_beside_arrived, ready_departed, ready_beside_departed}

module _ (old new : CoreData) (before : IsCore old) (valid : IsCore new) where
  module _ (event : Event) (applied : Applied old 0 event (length old.history) new) where
    abbrev entry : Entry
    entry = entry_of 0 event applied.reply

    pub stays_open : IsJobEvent event → IsOpen old → IsOpen new
    stays_open job_event opened = record {
      not_closed = applied.closed ∙ opened.not_closed;
      events = (let P : List Entry → Type 0 = λ history. All (λ (e : Entry). IsJobEvent e.event) history in
          subst P (sym applied.history) (All-push (λ (e : Entry). IsJobEvent e.event) old.history entry opened.events job_event));
      callers = (let P : List Entry → Type 0 = λ history. All (λ (e : Entry). e.caller ≡ 0) history in
          subst P (sym applied.history) (All-push (λ (e : Entry). e.caller ≡ 0) old.history entry opened.callers refl));
    }

    -- the states are those of a history with one entry more
    states_are : (x : ℕ) (s : State) → state_of_moment old.start (old.history ++ entry ∷ []) x ≡ s → state_of_moment new.start new.history x
        ≡ s
    states_are x s is = rw (applied.start, applied.history) is

    keeps : Keeps (strong_seen old) (strong_seen new)
    keeps =
        let more : length new.history ≡ length old.history + 1 = ap length applied.history ∙ length-append old.history (entry ∷ []) in
        record {
          start = applied.start;
          past = λ x below. states_are x _ (state_before old.start old.history entry x below);
          room = omega (arith, more);
          state = valid.state;
          tasks = same_count old.links new.links (same_tasks-step old.links event applied.reply new.links applied.step);
        }

    given : map (λ (e : Entry). e.event) new.history ≡ map (λ (e : Entry). e.event) old.history ++ event ∷ []
    given = ap (map (λ (e : Entry). e.event)) applied.history ∙ map-append (λ (e : Entry). e.event) old.history (entry ∷ [])

    time : elapsed new.history ≡ elapsed old.history + units_of event
    time = ap elapsed applied.history ∙ elapsed_push old.history entry

  pub arrives : (t : ℕ) → Applied old 0 (Arrive t) (length old.history) new → Readies t true (strong_seen old) (strong_seen new)
  arrives t applied = record {
    keeps = keeps (Arrive t) applied;
    elapsed = time (Arrive t) applied ∙ omega arith;
    given = given (Arrive t) applied;
    own = ready_arrived old.links t applied.reply new.links before.state applied.step;
    others = ready_beside_arrived old.links t applied.reply new.links before.state applied.step;
  }

  pub departs : (t : ℕ) → Applied old 0 (Depart t) (length old.history) new → Readies t false (strong_seen old) (strong_seen new)
  departs t applied = record {
    keeps = keeps (Depart t) applied;
    elapsed = time (Depart t) applied ∙ omega arith;
    given = given (Depart t) applied;
    own = ready_departed old.links t applied.reply new.links before.state applied.step;
    others = ready_beside_departed old.links t applied.reply new.links before.state applied.step;
  }

  pub passes : (units : ℕ) → Applied old 0 (Tick units) (length old.history) new → TimePasses units (strong_seen old) (strong_seen new)
  passes units applied = record {
    keeps = keeps (Tick units) applied;
    elapsed = time (Tick units) applied;
    given = given (Tick units) applied;
    same = applied.step.1;
    passed = λ x from below. states_are (Tick units) applied x old.links
        (state_with_tick old.start old.history (entry (Tick units) applied) x refl ∙ state_from old.start old.history x from
        ∙ sym before.links);
  }
