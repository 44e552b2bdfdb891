-- What is kept from event to event: the states of the weak scheduler, the history of the strong one, what was found of
-- both, and the text so far.
use Rattle.std.proofs.Common.{◌≡◌, ℕ, ◌+◌, ◌<◌, ◌≤◌, false, List, [], ◌∷◌, ◌++◌, length, map, take, get_or, refl, sym, ap, ◌∙◌, subst}
use Rattle.std.proofs.Common.{arith, length-append, append-nil}
use Rattle.std.specs.List.{flat_map}
use Rattle.std.proofs.lemmas.List.{take_more, take_all, map-append, length-map, length-take-le, flat_map_more}
use Rattle.task_set.specs.TaskSet.{SetData, TaskData}
use Rattle.task_set.specs.declared.event.Event.{Event}
use Rattle.task_set.specs.Event.{IsOfSystem}
use Rattle.strong_apa.specs.declared.reply.Entry.{Entry}
use Rattle.strong_apa.specs.State.{State, IsState, start_of, task_count}
use Rattle.strong_apa.specs.Step.{IsEventFor}
use Rattle.strong_apa.specs.History.{IsLegalFrom, effect_of, state_after}
use Rattle.std.specs.Prelude.{codes}
use Rattle.trace_reader.specs.declared.posted.Posted.{Posted}
use Rattle.trace_reader.specs.Input.{InputData, IsInput}
use Rattle.sched_core.specs.CoreData.{CoreData, IsCore, Applied, entry_of}
use Rattle.weak_apa.specs.Stable.{IsWeaklyStable}
use Rattle.weak_apa.specs.Step.{WeakStep, Follows, without_links}
use Rattle.weak_apa.specs.Compared.{Compares, IsNoBetter, IsWeakRun, states_after, EachBeside}
use Rattle.weak_apa.specs.WeakText.{comparison_line, weak_heading, IsWeakTextOf}
use Rattle.weak_apa.specs.declared.comparison.Comparison.{Comparison}
use Rattle.weak_apa.proofs.Alike.{alike_then}
use Rattle.weak_apa.proofs.Followed.{strong_step_follows}
use Rattle.weak_apa.proofs.NoBetter.{no_better}

-- ---- one more
-- the last of some states, or the one before all
abbrev last_state : State → List State → State
last_state s [] = s
last_state s (next ∷ states) = last_state next states

last_state-push : (s : State) (states : List State) (new : State) → new ≡ last_state s (states ++ new ∷ [])
last_state-push s [] new = refl
last_state-push s (next ∷ states) new = last_state-push next states new

IsWeakRun-push : (s : State) (events : List Event) (states : List State) (event : Event) (new : State) → IsWeakRun s events states
    → WeakStep (last_state s states) event new → IsWeakRun s (events ++ event ∷ []) (states ++ new ∷ [])
IsWeakRun-push s [] [] event new run step = (step, tt)
IsWeakRun-push s [] (next ∷ states) event new run step = absurd run
IsWeakRun-push s (first ∷ events) [] event new run step = absurd run
IsWeakRun-push s (first ∷ events) (next ∷ states) event new run step = (run.0, IsWeakRun-push next events states event new run.1 step)

states_after-push : (s : State) (history : List Entry) (entry : Entry) → states_after s (history ++ entry ∷ []) ≡ states_after s history
    ++ state_after s (history ++ entry ∷ []) ∷ []
states_after-push s [] entry = refl
states_after-push s (first ∷ rest) entry =
    ap (λ (states : List State). effect_of s first ∷ states) (states_after-push (effect_of s first) rest entry)

EachBeside-push : (Holds : State → State → Comparison → Type 0) (weaks strongs : List State) (found : List Comparison) (weak strong : State)
    (one : Comparison) → EachBeside Holds weaks strongs found → Holds weak strong one
    → EachBeside Holds (weaks ++ weak ∷ []) (strongs ++ strong ∷ []) (found ++ one ∷ [])
EachBeside-push Holds [] [] [] weak strong one each holds = (holds, tt)
EachBeside-push Holds (w ∷ weaks) (s ∷ strongs) (f ∷ found) weak strong one each holds =
    (each.0, EachBeside-push Holds weaks strongs found weak strong one each.1 holds)
EachBeside-push Holds [] [] (f ∷ found) weak strong one each holds = absurd each
EachBeside-push Holds [] (s ∷ strongs) [] weak strong one each holds = absurd each
EachBeside-push Holds [] (s ∷ strongs) (f ∷ found) weak strong one each holds = absurd each
EachBeside-push Holds (w ∷ weaks) [] [] weak strong one each holds = absurd each
EachBeside-push Holds (w ∷ weaks) [] (f ∷ found) weak strong one each holds = absurd each
EachBeside-push Holds (w ∷ weaks) (s ∷ strongs) [] weak strong one each holds = absurd each

abbrev event_of : Posted → Event
event_of posted = posted.event

abbrev entry_event : Entry → Event
entry_event entry = entry.event

-- ---- after n events
pub record IsCompared (set : SetData) (events : List Posted) (n : ℕ) (weak : State) (core : CoreData) (text : List ℕ) : Type 0 where
  pub states : List State
  pub found : List Comparison
  pub run : IsWeakRun (start_of set) (map event_of (take n events)) states
  pub now : weak ≡ last_state (start_of set) states
  pub of_events : map entry_event core.history ≡ map event_of (take n events)
  pub compared : EachBeside Compares states (states_after (start_of set) core.history) found
  pub no_better : EachBeside IsNoBetter states (states_after (start_of set) core.history) found
  pub alike : without_links weak ≡ without_links core.links
  pub start : core.start ≡ start_of set
  pub not_closed : core.closed ≡ false
  pub valid : IsCore core
  pub count : length found ≡ n
  pub bytes : text ≡ weak_heading (length events) ++ flat_map (comparison_line set) found

-- before any event
pub compared_none : (set : SetData) (events : List Posted) (weak : State) (core : CoreData) (text : List ℕ) → weak ≡ start_of set
    → core ≡ record { start = start_of set; history = []; links = start_of set; closed = false; spare = 0 } → IsCore core
    → text ≡ weak_heading (length events) → IsCompared set events 0 weak core text
compared_none set events weak core text weakly strongly valid written =
    let empty : core.history ≡ [] = ap (λ (c : CoreData). c.history) strongly in
    record {
      states = [];
      found = [];
      run = tt;
      now = weakly;
      of_events = ap (map entry_event) empty;
      compared = rw empty tt;
      no_better = rw empty tt;
      alike = ap without_links (weakly ∙ sym (ap (λ (c : CoreData). c.links) strongly));
      start = ap (λ (c : CoreData). c.start) strongly;
      not_closed = ap (λ (c : CoreData). c.closed) strongly;
      valid = valid;
      count = refl;
      bytes = written ∙ sym (append-nil (weak_heading (length events)));
    }

-- each event of an input is of its set
pub posted_known : (input : InputData) → IsInput input → (n : ℕ) → n < length input.events → (posted : Posted)
    → posted ≡ get_or input.events n posted → IsOfSystem input.set.processors (length input.set.tasks) posted.event
posted_known input valid n fits posted is = subst (λ (p : Posted). IsOfSystem input.set.processors (length input.set.tasks) p.event)
    (sym is) (valid.each_event n posted fits).event.0

-- a core over the set has as many tasks
pub core_count : (set : SetData) (core : CoreData) → IsCore core → core.start ≡ start_of set → task_count core.links ≡ length set.tasks
core_count set core valid start = valid.tasks ∙ ap task_count start ∙ length-map set.tasks (λ (task : TaskData). task.priority)

module _ (set : SetData) (events : List Posted) (n : ℕ) (weak : State) (core : CoreData) (text : List ℕ)
    (so_far : IsCompared set events n weak core text) where
  pub core_tasks : task_count core.links ≡ length set.tasks
  core_tasks = core_count set core so_far.valid so_far.start

  pub core_processors : core.links.processors ≡ set.processors
  core_processors = so_far.valid.processors ∙ ap (λ (s : State). s.processors) so_far.start

  -- an event of the set is one for both
  pub known_strong : (event : Event) → IsOfSystem set.processors (length set.tasks) event → IsEventFor core.links event
  known_strong event known = rw (core_processors, core_tasks) known

  pub known_weak : (event : Event) → IsOfSystem set.processors (length set.tasks) event → IsEventFor weak event
  known_weak event known =
      let processors : weak.processors ≡ core.links.processors = ap (λ (s : State). s.processors) so_far.alike in
      let tasks : task_count weak ≡ task_count core.links = ap task_count so_far.alike in
      rw (processors, tasks) (known_strong event known)

  pub history_length : n ≤ length events → length core.history ≡ n
  history_length fits = sym (length-map core.history entry_event) ∙ ap length so_far.of_events ∙ length-map (take n events) event_of
      ∙ length-take-le n events fits

  -- after all events, with the last line
  pub compared_whole : n ≤ length events → length events ≤ n → (text' : List ℕ) → text' ≡ text ++ codes "end\n"
      → IsWeakTextOf set events text'
  compared_whole below all text' ended =
      let whole : take n events ≡ events = take_all n events all in
      let count : length so_far.found ≡ length events = so_far.count ∙ omega arith in
      record {
        found = so_far.found;
        is_found = record {
          states = so_far.states;
          history = core.history;
          weak = subst (λ (xs : List Posted). IsWeakRun (start_of set) (map event_of xs) so_far.states) whole so_far.run;
          of_events = so_far.of_events ∙ ap (map event_of) whole;
          legal = subst (λ (s : State). IsLegalFrom s core.history) so_far.start so_far.valid.legal;
          compared = so_far.compared;
          no_better = so_far.no_better;
        };
        is_text = ended ∙ ap (λ (before : List ℕ). before ++ codes "end\n") so_far.bytes
            ∙ ap (λ (k : ℕ). weak_heading k ++ flat_map (comparison_line set) so_far.found ++ codes "end\n") (sym count);
      }

  module _ (d : Posted) (fits : n < length events) (stream place : ℕ) (event : Event) (is : event ≡ event_of (get_or events n d))
      (weak' : State) (core' : CoreData)
      (step : WeakStep weak event weak') (follows : Follows weak event weak') (applied : Applied core stream event place core') where
    -- both are alike again
    pub alike_next : without_links weak' ≡ without_links core'.links
    alike_next = alike_then weak core.links weak' core'.links event so_far.alike follows
        (strong_step_follows core.links event applied.reply core'.links so_far.valid.state applied.step)

    module _ (found : Comparison) (text' : List ℕ) (valid : IsCore core') (ok : IsState weak') (stable : IsWeaklyStable weak')
        (compares : Compares weak' core'.links found) (written : text' ≡ text ++ comparison_line set found) where
      entry : Entry
      entry = entry_of stream event applied.reply

      event_of_entry : entry_event entry ≡ event
      unfolding entry
      event_of_entry = refl

      history_is : core'.history ≡ core.history ++ entry ∷ []
      unfolding entry
      history_is = applied.history

      start_is : core'.start ≡ start_of set
      start_is = applied.start ∙ so_far.start

      links_are : core'.links ≡ state_after (start_of set) (core.history ++ entry ∷ [])
      links_are = valid.links ∙ ap (λ (s : State). state_after s core'.history) start_is ∙ ap (state_after (start_of set)) history_is

      states_are : states_after (start_of set) core'.history ≡ states_after (start_of set) core.history ++ core'.links ∷ []
      states_are = ap (states_after (start_of set)) history_is ∙ states_after-push (start_of set) core.history entry
          ∙ ap (λ (s : State). states_after (start_of set) core.history ++ s ∷ []) (sym links_are)

      events_are : map event_of (take (n + 1) events) ≡ map event_of (take n events) ++ event ∷ []
      events_are = ap (map event_of) (take_more events n d fits) ∙ map-append event_of (take n events) (get_or events n d ∷ [])
          ∙ ap (λ (e : Event). map event_of (take n events) ++ e ∷ []) (sym is)

      pub compared_more : IsCompared set events (n + 1) weak' core' text'
      compared_more = record {
        states = so_far.states ++ weak' ∷ [];
        found = so_far.found ++ found ∷ [];
        run = rw events_are (IsWeakRun-push (start_of set) (map event_of (take n events)) so_far.states event weak' so_far.run
            (subst (λ (s : State). WeakStep s event weak') so_far.now step));
        now = last_state-push (start_of set) so_far.states weak';
        of_events = ap (map entry_event) history_is ∙ map-append entry_event core.history (entry ∷ [])
            ∙ rw (so_far.of_events, event_of_entry) (sym events_are);
        compared = rw states_are (EachBeside-push Compares so_far.states (states_after (start_of set) core.history)
            so_far.found weak' core'.links found so_far.compared compares);
        no_better = rw states_are (EachBeside-push IsNoBetter so_far.states (states_after (start_of set) core.history)
            so_far.found weak' core'.links found so_far.no_better
            (no_better weak' core'.links ok valid.state alike_next valid.certificates found stable compares));
        alike = alike_next;
        start = start_is;
        not_closed = applied.closed ∙ so_far.not_closed;
        valid = valid;
        count = length-append so_far.found (found ∷ []) ∙ ap (λ (k : ℕ). k + 1) so_far.count;
        bytes = written ∙ ap (λ (so_far : List ℕ). so_far ++ comparison_line set found) so_far.bytes
            ∙ flat_map_more (comparison_line set) (weak_heading (length events)) so_far.found found;
      }
