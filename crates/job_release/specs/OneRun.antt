-- A state and the events that led to it have one list of states.
use Rattle.std.proofs.Common.{◌≡◌, ℕ, List, [], ◌∷◌, refl, sym, subst}
use Rattle.std.proofs.Math.Logic.{∥∥₁_elim}
use Rattle.std.specs.Coded.{Coded, Coded-set, coded_ℕ, coded_bool, coded_list, coded_option, coded×}
use Rattle.std.specs.Coded.{code_by}
use mathlib.Core.HLevel.{Σ_prop_path}
use mathlib.Core.Logic.{∥∥₁_prop}
use Rattle.std.specs.Prelude.{Bool, Option}
use Rattle.task_set.specs.declared.event.Event.{Event}
use Rattle.strong_apa.specs.State.{State, IsState}
use Rattle.weak_apa.specs.Compared.{IsWeakRun}
use Rattle.weak_apa.proofs.Unique.{weak_step_is_unique, weak_step_keeps_state}
use Rattle.job_release.specs.WeakRuns.{StatesOf, begun_before}

-- two runs at the same events have the same states
pub same_states : (events : List Event) (s : State) → IsState s → (states others : List State)
    → IsWeakRun s events states → IsWeakRun s events others → states ≡ others
same_states [] s ok [] [] one two = refl
same_states [] s ok [] (next ∷ others) one two = absurd two
same_states [] s ok (new ∷ states) others one two = absurd one
same_states (event ∷ events) s ok [] others one two = absurd one
same_states (event ∷ events) s ok (new ∷ states) [] one two = absurd two
same_states (event ∷ events) s ok (new ∷ states) (next ∷ others) one two =
    let same : next ≡ new = weak_step_is_unique s event next new ok two.0 one.0 in
    let later = same_states events new (weak_step_keeps_state s event new ok one.0)
    states others one.1 (subst (λ (k : State). IsWeakRun k events others) same two.1) in
    λ i. (sym same) i ∷ later i

abbrev Parts : Type 0
Parts = ℕ × (List ℕ × (List ℕ × (ℕ × (List Bool × List (Option ℕ)))))

abbrev parts : State → Parts
parts s = (s.processors, (s.priorities, (s.masks, (s.online, (s.ready, s.on)))))

abbrev whole : Parts → State
whole p = record {
  processors = p.0;
  priorities = p.1.0;
  masks = p.1.1.0;
  online = p.1.1.1.0;
  ready = p.1.1.1.1.0;
  on = p.1.1.1.1.1;
}

coded_state : Coded State
coded_state = code_by Parts (coded× coded_ℕ
    (coded× (coded_list coded_ℕ) (coded× (coded_list coded_ℕ)
    (coded× coded_ℕ (coded× (coded_list coded_bool) (coded_list (coded_option coded_ℕ)))))))
    parts whole (λ s. refl)

pub StatesOf-prop : (now : State) (events : List Event) → IsProp (StatesOf now events)
StatesOf-prop now events one two =
    Σ_prop_path (λ states. ∥∥₁_prop)
    (∥∥₁_elim one.1 (Coded-set (coded_list coded_state) one.0 two.0)
    (λ first. ∥∥₁_elim two.1 (Coded-set (coded_list coded_state) one.0 two.0)
    (λ second. same_states events (begun_before now)
    first.0.begins one.0 two.0 first.0.run second.0.run)))
