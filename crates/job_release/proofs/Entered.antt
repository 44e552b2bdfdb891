-- The stored states, as one event more comes.
use Rattle.std.proofs.Common.{◌≡◌, ℕ, false, List, [], ◌∷◌, ◌++◌, replicate, Result, Ok, Err, OnOk, refl, sym, ap, ◌∙◌, subst}
use Rattle.std.specs.Result.{OnErr}
use Rattle.std.proofs.lemmas.Grind.{merely}
use Rattle.std.proofs.lemmas.List.{length-map}
use Rattle.std.proofs.lemmas.List.Elements.{All-nil, All-push}
use Rattle.task_set.specs.TaskSet.{SetData}
use Rattle.task_set.specs.declared.event.Event.{Event}
use Rattle.task_set.specs.declared.event.Event.TheVariants.{Arrive, Depart, Tick, Affinity, Offline, Online}
use Rattle.strong_apa.specs.State.{State, IsState, start_of}
use Rattle.weak_apa.specs.Stable.{IsWeaklyStable}
use Rattle.weak_apa.specs.Step.{WeakStep, Follows}
use Rattle.job_release.specs.Driven.{IsJobEvent}
use Rattle.job_release.specs.WeakHistory.{WeakHistoryData, Continues}
use Rattle.job_release.specs.OneRun.{StatesOf-prop}
use Rattle.job_release.specs.WeakRuns.{IsNeededIn, IsRunFrom, AreStatesOf, StatesOf, begun_before, last_state}
use Rattle.job_release.proofs.WeakHistories.{last_push, run_push, needed_push}

-- ---- the list that is stored is the only one
pub only_states : (now : State) (events : List Event) (stored : StatesOf now events) (states : List State) → AreStatesOf now events states
    → states ≡ stored.0
only_states now events stored states are = ap (λ (s : StatesOf now events). s.0) (StatesOf-prop now events (states, merely are) stored)

pub stored_are : (now : State) (events : List Event) (stored : StatesOf now events) (states : List State) → AreStatesOf now events states
    → AreStatesOf now events stored.0
stored_are now events stored states are = subst (AreStatesOf now events) (only_states now events stored states are) are

-- ---- before any event
pub begun_start : (set : SetData) → begun_before (start_of set) ≡ start_of set
begun_start set = ap (λ (n : ℕ). record (start_of set) { ready = replicate n false }) (length-map set.tasks (λ t. t.priority))

pub none_yet : (set : SetData) (now : State) (events : List Event) → now ≡ start_of set → events ≡ [] → IsState now → IsWeaklyStable now
    → AreStatesOf now events []
none_yet set now events is none ok stable =
    let begun : begun_before now ≡ now = ap (λ (s : State). begun_before s) is ∙ begun_start set ∙ sym is in (
      subst (λ (list : List Event). IsRunFrom (begun_before now) list []) (sym none) (record {
        begins = subst IsState (sym begun) ok;
        run = tt;
        each_event = All-nil IsJobEvent;
        needed = tt;
        stable_first = subst IsWeaklyStable (sym begun) stable;
        stable = All-nil IsWeaklyStable;
      }),
      sym begun,
    )

-- ---- one event more
begun_kept : (old : State) (event : Event) (new : State) → IsJobEvent event → Follows old event new → begun_before new ≡ begun_before old
begun_kept old (Arrive t) new of_jobs follows = ap (λ (s : State). begun_before s) follows
begun_kept old (Depart t) new of_jobs follows = ap (λ (s : State). begun_before s) follows
begun_kept old (Tick units) new of_jobs follows = ap (λ (s : State). begun_before s) follows
begun_kept old (Affinity t mask) new of_jobs follows = absurd of_jobs
begun_kept old (Offline p) new of_jobs follows = absurd of_jobs
begun_kept old (Online p) new of_jobs follows = absurd of_jobs

-- the states after an event, or after none where it was refused
pub record Entered (taken : Type 0 → Type 0) (old new : State) (events : List Event) (before : List State) : Type 0 where
  pub states : List State
  pub are : AreStatesOf new events states
  pub begun : taken (begun_before new ≡ begun_before old)
  pub grown : taken (states ≡ before ++ new ∷ [])

pub entered : {E : Type 0} (result : Result (Unit {0}) E) (event : Event) (old new : State) (events more : List Event) (before : List State)
    → AreStatesOf old events before → IsJobEvent event → IsNeededIn old event
    → OnOk result (WeakStep old event new) → OnOk result (Follows old event new) → OnOk result (IsWeaklyStable new)
    → OnOk result (more ≡ events ++ event ∷ [])
    → OnErr result (new ≡ old) → OnErr result (more ≡ events) → Entered (OnOk result) old new more before
entered (Ok x) event old new events more before are of_jobs needed step follows stable listed same same_events =
    let begun = begun_kept old event new of_jobs follows in
    let step' : WeakStep (last_state (begun_before old) before) event new = subst (λ (s : State). WeakStep s event new) are.1 step in
    let run : IsRunFrom (begun_before old) (events ++ event ∷ []) (before ++ new ∷ []) = record {
      begins = are.0.begins;
      run = run_push (begun_before old) events before event new are.0.run step';
      each_event = All-push IsJobEvent events event are.0.each_event of_jobs;
      needed = needed_push (begun_before old) events before event new are.0.needed are.0.run
          (subst (λ (s : State). IsNeededIn s event) are.1 needed);
      stable_first = are.0.stable_first;
      stable = All-push IsWeaklyStable before new are.0.stable stable;
    } in
    let all : IsRunFrom (begun_before new) more (before ++ new ∷ []) =
    subst (λ (s : State). IsRunFrom s more (before ++ new ∷ [])) (sym begun)
    (subst (λ (list : List Event). IsRunFrom (begun_before old) list (before ++ new ∷ [])) (sym listed) run) in
    record { states = before ++ new ∷ []; are = (all, sym (last_push (begun_before new) before new)); begun = begun; grown = refl }
entered (Err e) event old new events more before are of_jobs needed step follows stable listed same same_events =
    record {
      states = before;
      are = subst (λ (s : State). AreStatesOf s more before) (sym same)
          (subst (λ (list : List Event). AreStatesOf old list before) (sym same_events) are);
      begun = tt;
      grown = tt;
    }

-- what contracts see of these parts
abbrev seen_of : (now : State) (events : List Event) → List State → WeakHistoryData
seen_of now events states = record { start = begun_before now; events = events; states = states }

pub continued : {E : Type 0} (result : Result (Unit {0}) E) (event : Event) (before : WeakHistoryData) (old : State) (events : List Event)
    (states : List State) → before ≡ seen_of old events states
    → old ≡ last_state (begun_before old) states → (new : State) (more : List Event) (stored : StatesOf new more)
    → Entered (OnOk result) old new more states
    → OnOk result (WeakStep old event new) → OnOk result (more ≡ events ++ event ∷ [])
    → OnOk result (Continues before event (seen_of new more stored.0))
continued (Err e) event before old events states is old_is new more stored done step listed = tt
continued (Ok x) event before old events states is old_is new more stored done step listed =
    let only = only_states new more stored done.states done.are in
    let now : new ≡ last_state (begun_before new) stored.0 = (stored_are new more stored done.states done.are).1 in
    let all : Continues (seen_of old events states) event (seen_of new more stored.0) = record {
      start = done.begun;
      events = listed;
      states = sym only ∙ done.grown ∙ ap (λ (s : State). states ++ s ∷ []) now;
      step = subst (λ (s : State). WeakStep s event (last_state (begun_before new) stored.0)) old_is (subst (WeakStep old event) now step);
    } in
    subst (λ (b : WeakHistoryData). Continues b event (seen_of new more stored.0)) (sym is) all
