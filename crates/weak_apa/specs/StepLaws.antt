-- What holds of every step of the weak scheduler, whatever program takes it. Each law is proved as
-- the contract of a function of `laws`.
use Rattle.std.specs.Prelude.{◌≡◌}
use Rattle.task_set.specs.declared.event.Event.{Event}
use Rattle.strong_apa.specs.State.{State, IsState}
use Rattle.weak_apa.specs.Step.{WeakStep}

-- one state and one event have at most one new state
abbrev pub WeakStepIsUnique : Type 0
WeakStepIsUnique = (s : State) (event : Event) (new next : State) → IsState s → WeakStep s event new
    → WeakStep s event next → new ≡ next

-- a step leads from a state to a state
abbrev pub WeakStepKeepsState : Type 0
WeakStepKeepsState =
    (s : State) (event : Event) (new : State) → IsState s → WeakStep s event new → IsState new
