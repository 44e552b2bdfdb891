-- Neither scheduler has a choice, so all runs of the jobs of an input have the same states at each moment, and the comparison is one text.
use Rattle.std.proofs.Common.{◌≡◌, ℕ, ◌+◌, ◌-◌, ◌≤◌, true, false, List, [], ◌∷◌, ◌++◌, map, nat_lt, nat_le, refl, sym, ap, ◌∙◌, subst, inl}
use Rattle.std.proofs.Common.{inr, arith}
use Rattle.std.proofs.lemmas.Bool.{cases_Bool, cases_lt, true≢false}
use Rattle.std.proofs.lemmas.Bool.Decides.{nat_tests}
use Rattle.std.proofs.lemmas.List.Sums.{sum_by-cons}
use Rattle.task_set.specs.declared.event.Event.{Event}
use Rattle.task_set.specs.declared.event.Event.TheVariants.{Arrive, Depart, Tick, Affinity, Offline, Online}
use Rattle.strong_apa.specs.declared.reply.Entry.{Entry}
use Rattle.strong_apa.specs.declared.reply.Reply.{Reply}
use Rattle.strong_apa.specs.declared.reply.Reply.TheVariants.{Ticked}
use Rattle.strong_apa.specs.State.{State, IsState, start_of}
use Rattle.strong_apa.specs.Step.{SchedulerStep}
use Rattle.strong_apa.specs.History.{IsLegalFrom, effect_of, state_after}
use Rattle.strong_apa.proofs.Start.{IsState-start}
use Rattle.strong_apa.proofs.Steps.{step_keeps_state}
use Rattle.strong_apa.proofs.Unique.{step_is_unique}
use Rattle.weak_apa.specs.Compared.{IsWeakRun, states_after}
use Rattle.weak_apa.specs.Step.{WeakStep}
use Rattle.weak_apa.proofs.Unique.{weak_step_is_unique, weak_step_keeps_state}
use Rattle.job_release.specs.Driven.{RunsJobs}
use Rattle.job_release.specs.EventCauses.{AreCaused}
use Rattle.job_release.specs.JobInput.{JobInputData, IsJobInput}
use Rattle.job_release.specs.JobRun.{HasEventsOf}
use Rattle.job_release.specs.Laws.{InputHasOneTimeline, InputHasOneWeakTimeline, WeakJobsTextIsUnique}
use Rattle.job_release.specs.Moments.{Timeline, is_tick, units_of, elapsed, change_by, changes_by, state_of_moment}
use Rattle.job_release.specs.WeakJobsText.{weak_jobs_text}
use Rattle.job_release.specs.WeakRuns.{elapsed_at, state_then}
use Rattle.job_release.specs.WeakServes.{WeakServes, weak_timeline}
use Rattle.job_release.proofs.Moments.{tick_changes_nothing, change_of_tick, none_later}
use Rattle.job_release.proofs.OneTimeline.{IsRun, one_timeline}

-- ---- the weak scheduler
weak_run : (s : State) (events : List Event) (states : List State) → IsWeakRun s events states → IsRun WeakStep s events states
weak_run s [] [] run = tt
weak_run s [] (after ∷ states) run = absurd run
weak_run s (event ∷ events) [] run = absurd run
weak_run s (event ∷ events) (after ∷ states) run = (run.0, weak_run after events states run.1)

one_weak_timeline : (input : JobInputData) (events others : List Event) (states after : List State) → IsJobInput input
    → WeakServes input events states → WeakServes input others after
    → weak_timeline input events states ≡ weak_timeline input others after
one_weak_timeline input events others states after valid one two =
    let start = start_of input.set in
    one_timeline WeakStep weak_step_is_unique weak_step_keeps_state (λ s units new step. step) (λ s units. refl) input start
    (IsState-start input.set valid.valid) events others states after
    (weak_run start events states one.run) (weak_run start others after two.run) one.asked.order two.asked.order one.whole two.whole
    one.asked.caused two.asked.caused

pub input_has_one_weak_timeline : InputHasOneWeakTimeline
input_has_one_weak_timeline input events others states after x valid one two =
    ap (λ (moments : Timeline). moments x) (one_weak_timeline input events others states after valid one two)

-- ---- the strong scheduler
abbrev StrongStep : State → Event → State → Type 0
StrongStep s event new = (reply : Reply) × SchedulerStep s event reply new

abbrev events_of : List Entry → List Event
events_of history = map (λ (entry : Entry). entry.event) history

strong_once : (s : State) (event : Event) (new next : State) → IsState s → StrongStep s event new → StrongStep s event next → new ≡ next
strong_once s event new next ok one two = (step_is_unique s event one.0 two.0 new next ok one.1 two.1).1

strong_keeps : (s : State) (event : Event) (new : State) → IsState s → StrongStep s event new → IsState new
strong_keeps s event new ok step = step_keeps_state s event step.0 new ok step.1

strong_run : (s : State) (history : List Entry) → IsLegalFrom s history → IsRun StrongStep s (events_of history) (states_after s history)
strong_run s [] legal = tt
strong_run s (first ∷ rest) legal = ((first.reply, legal.0), strong_run (effect_of s first) rest legal.1)

time_is : (history : List Entry) → elapsed_at (events_of history) ≡ elapsed history
time_is [] = refl
time_is (first ∷ rest) =
    sum_by-cons units_of first.event (events_of rest) ∙ ap (λ (n : ℕ). units_of first.event + n) (time_is rest)
    ∙ sym (sum_by-cons (λ (entry : Entry). units_of entry.event) first rest)

no_time : (event : Event) → is_tick event ≡ false → units_of event ≡ 0
no_time (Arrive t) change = refl
no_time (Depart t) change = refl
no_time (Tick units) change = absurd (true≢false change)
no_time (Affinity t mask) change = refl
no_time (Offline p) change = refl
no_time (Online p) change = refl

-- past the first entry
later_is : (s : State) (m y : ℕ) (first : Entry) (rest : List Entry) → units_of first.event ≤ y
    → state_after (effect_of s first) (changes_by (m + units_of first.event + (y - units_of first.event)) (m + units_of first.event) rest)
    ≡ state_then (effect_of s first) (events_of rest) (states_after (effect_of s first) rest) (y - units_of first.event)
    → state_after (effect_of s first) (changes_by (m + y) (m + units_of first.event) rest)
    ≡ state_then s (events_of (first ∷ rest)) (states_after s (first ∷ rest)) y
later_is s m y first rest from rest_is =
    let place : m + y ≡ m + units_of first.event + (y - units_of first.event) = omega arith in
    let past : nat_lt y (units_of first.event) ≡ false = grind (arith, nat_tests) in
    ap (λ (x : ℕ). state_after (effect_of s first) (changes_by x (m + units_of first.event) rest)) place ∙ rest_is ∙ rw past refl

-- the state of a moment is that of the run
then_is : (s : State) (m y : ℕ) (history : List Entry) → state_after s (changes_by (m + y) m history)
    ≡ state_then s (events_of history) (states_after s history) y
then_is s m y [] = refl
then_is s m y (first ∷ rest) = elim (cases_Bool (is_tick first.event)) [
  | inl tick ↦ (
      let none = change_of_tick (m + y) m first tick in
      let still : effect_of s first ≡ s = tick_changes_nothing s first.event first.reply tick in
      elim (cases_lt y (units_of first.event)) [
        | inl below ↦ (
            let here : nat_lt y (units_of first.event) ≡ true = grind (arith, nat_tests) in
            ap (λ (now : List Entry). state_after s (now ++ changes_by (m + y) (m + units_of first.event) rest)) none
            ∙ ap (state_after s) (none_later (m + y) (m + units_of first.event) rest (omega arith)) ∙ rw here refl)
        | inr from ↦
            ap (λ (now : List Entry). state_after s (now ++ changes_by (m + y) (m + units_of first.event) rest)) none
            ∙ ap (λ (now : State). state_after now (changes_by (m + y) (m + units_of first.event) rest)) (sym still)
            ∙ later_is s m y first rest from (then_is (effect_of s first) (m + units_of first.event) (y - units_of first.event) rest)
      ])
  | inr change ↦ (
      let none = no_time first.event change in
      let by : nat_le m (m + y) ≡ true = grind (arith, nat_tests) in
      let one : change_by (m + y) m first ≡ first ∷ [] = rw (change, by) refl in
      ap (λ (now : List Entry). state_after s (now ++ changes_by (m + y) (m + units_of first.event) rest)) one
      ∙ later_is s m y first rest (omega arith) (then_is (effect_of s first) (m + units_of first.event) (y - units_of first.event) rest))
]

strong_timeline : (s : State) (history : List Entry) → state_of_moment s history ≡ state_then s (events_of history) (states_after s history)
strong_timeline s history =
    let at : (x : ℕ) → state_of_moment s history x ≡ state_then s (events_of history) (states_after s history) x =
    λ x. (let place : x ≡ 0 + x = omega arith in ap (λ (y : ℕ). state_after s (changes_by y 0 history)) place ∙ then_is s 0 x history) in
    λ i x. at x i

one_strong_timeline : (input : JobInputData) (history other : List Entry) → IsJobInput input → RunsJobs input history
    → HasEventsOf input history → RunsJobs input other → HasEventsOf input other
    → state_of_moment (start_of input.set) history ≡ state_of_moment (start_of input.set) other
one_strong_timeline input history other valid one asked two also =
    let start = start_of input.set in
    let first = strong_timeline start history in
    let second = strong_timeline start other in
    first
    ∙ one_timeline StrongStep strong_once strong_keeps (λ s units new step. step.1.1) (λ s units. (Ticked, (refl, refl))) input start
    (IsState-start input.set valid.valid) (events_of history) (events_of other)
    (states_after start history) (states_after start other) (strong_run start history one.legal) (strong_run start other two.legal)
    asked.order also.order
    (time_is history ∙ one.whole) (time_is other ∙ two.whole) (subst (AreCaused input (events_of history)) first asked.caused)
    (subst (AreCaused input (events_of other)) second also.caused)
    ∙ sym second

pub input_has_one_timeline : InputHasOneTimeline
input_has_one_timeline input history other x valid one asked two also =
    ap (λ (moments : Timeline). moments x) (one_strong_timeline input history other valid one asked two also)

-- ---- the text
pub weak_jobs_text_is_unique : WeakJobsTextIsUnique
weak_jobs_text_is_unique input text other valid one two =
    let start = start_of input.set in
    let weak = one_weak_timeline input one.events two.events one.states two.states valid one.weak two.weak in
    let strong = one_strong_timeline input one.history two.history valid one.strong one.strong_asked two.strong two.strong_asked in
    one.is_text ∙ ap (λ (moments : Timeline). weak_jobs_text input moments (state_of_moment start one.history)) weak
    ∙ ap (λ (moments : Timeline). weak_jobs_text input (weak_timeline input two.events two.states) moments) strong ∙ sym two.is_text
