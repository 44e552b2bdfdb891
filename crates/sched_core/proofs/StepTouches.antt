-- Which occupants a step changes: those of the processors that it touches alone.
use Rattle.std.proofs.Common.{◌≡◌, ℕ, [], ap, subst}
use Rattle.task_set.specs.declared.event.Event.{Event}
use Rattle.task_set.specs.declared.event.Event.TheVariants.{Tick}
use Rattle.strong_apa.specs.declared.reply.Reply.{Reply}
use Rattle.strong_apa.specs.Reply.{chain_of}
use Rattle.strong_apa.specs.State.{State, IsState}
use Rattle.strong_apa.specs.Step.{SchedulerStep}
use Rattle.strong_apa.proofs.Steps.{reply_gives_new_state}
use Rattle.strong_apa.specs.Touched.{StaysOutside, touched}
use Rattle.strong_apa.proofs.StepsPass.{step_passes}
use Rattle.strong_apa.proofs.Touched.{passing_stays_outside}

pub step_stays_outside : (s : State) (event : Event) (reply : Reply) (new : State) → IsState s → SchedulerStep s event reply new
    → StaysOutside s new (touched event reply)
step_stays_outside s event reply new ok step =
    rw (reply_gives_new_state s event reply new step) (passing_stays_outside s event reply ok (step_passes s event reply new ok step))

-- a tick has no chain
pub tick_has_no_chain : (s : State) (event : Event) (reply : Reply) (new : State) → SchedulerStep s event reply new → (units : ℕ)
    → event ≡ Tick units → chain_of reply ≡ []
tick_has_no_chain s event reply new step units e = ap chain_of (subst (λ (x : Event). SchedulerStep s x reply new) e step).0
