-- Runs of the weak scheduler, and the states of single moments, as one event more comes.
use Rattle.std.proofs.Common.{◌≡◌, ℕ, ◌+◌, ◌-◌, ◌<◌, ◌≤◌, true, false, List, [], ◌∷◌, ◌++◌, nat_lt, refl, inl, inr, arith}
use Rattle.std.proofs.lemmas.Bool.Decides.{nat_tests}
use Rattle.std.proofs.lemmas.Bool.{cases_Bool}
use Rattle.std.proofs.lemmas.List.Sums.{sum_by-cons, sum_by_push}
use Rattle.task_set.specs.declared.event.Event.{Event}
use Rattle.strong_apa.specs.State.{State}
use Rattle.weak_apa.specs.Compared.{IsWeakRun}
use Rattle.weak_apa.specs.Step.{WeakStep}
use Rattle.job_release.specs.Moments.{units_of}
use Rattle.job_release.specs.WeakRuns.{last_state, state_then, elapsed_at, IsNeededIn, AreNeededFrom}

-- ---- the states after the events
pub last_push : (s : State) (states : List State) (new : State) → last_state s (states ++ new ∷ []) ≡ new
last_push s [] new = refl
last_push s (after ∷ states) new = last_push after states new

pub run_push : (s : State) (events : List Event) (states : List State) (event : Event) (new : State) → IsWeakRun s events states
    → WeakStep (last_state s states) event new → IsWeakRun s (events ++ event ∷ []) (states ++ new ∷ [])
run_push s [] [] event new run step = (step, tt)
run_push s [] (after ∷ states) event new run step = absurd run
run_push s (first ∷ events) [] event new run step = absurd run
run_push s (first ∷ events) (after ∷ states) event new run step = (run.0, run_push after events states event new run.1 step)

pub needed_push : (s : State) (events : List Event) (states : List State) (event : Event) (new : State) → AreNeededFrom s events states
    → IsWeakRun s events states
    → IsNeededIn (last_state s states) event → AreNeededFrom s (events ++ event ∷ []) (states ++ new ∷ [])
needed_push s [] [] event new needed run one = (one, tt)
needed_push s [] (after ∷ states) event new needed run one = absurd run
needed_push s (first ∷ events) [] event new needed run one = absurd run
needed_push s (first ∷ events) (after ∷ states) event new needed run one =
    (needed.0, needed_push after events states event new needed.1 run.1 one)

-- ---- the state of a moment
pub elapsed_push : (events : List Event) (event : Event) → elapsed_at (events ++ event ∷ []) ≡ elapsed_at events + units_of event
elapsed_push events event = sum_by_push units_of events event

-- an event changes no moment before its own
pub then_before : (s : State) (events : List Event) (states : List State) (event : Event) (new : State) (x : ℕ) → IsWeakRun s events states
    → x < elapsed_at events → state_then s (events ++ event ∷ []) (states ++ new ∷ []) x ≡ state_then s events states x
then_before s [] [] event new x run before = absurd (omega arith)
then_before s [] (after ∷ states) event new x run before = absurd run
then_before s (first ∷ events) [] event new x run before = absurd run
then_before s (first ∷ events) (after ∷ states) event new x run before = elim (cases_Bool (nat_lt x (units_of first))) [
  | inl here ↦ rw here refl
  | inr later ↦ rw later (
      let sum = sum_by-cons units_of first events in
      let past : units_of first ≤ x = grind (arith, nat_tests) in
      then_before after events states event new (x - units_of first) run.1 (omega arith))
]

-- the moments of an event are in the state before it
pub then_passed : (s : State) (events : List Event) (states : List State) (event : Event) (new : State) (x : ℕ) → IsWeakRun s events states
    → elapsed_at events ≤ x → x < elapsed_at events + units_of event → state_then s (events ++ event ∷ []) (states ++ new ∷ []) x
    ≡ last_state s states
then_passed s [] [] event new x run from before =
    let here : nat_lt x (units_of event) ≡ true = grind (arith, nat_tests) in
    rw here refl
then_passed s [] (after ∷ states) event new x run from before = absurd run
then_passed s (first ∷ events) [] event new x run from before = absurd run
then_passed s (first ∷ events) (after ∷ states) event new x run from before =
    let sum = sum_by-cons units_of first events in
    let later : nat_lt x (units_of first) ≡ false = grind (arith, nat_tests) in
    rw later (then_passed after events states event new (x - units_of first) run.1 (omega arith) (omega arith))
