-- Laws of replies that pass, and of the scheduler's step, which is one of them. Each law is proved
-- as the contract of a function of `laws`.
use Rattle.task_set.specs.declared.event.Event.{Event}
use Rattle.strong_apa.specs.declared.reply.Reply.{Reply}
use Rattle.strong_apa.specs.State.{State, IsState}
use Rattle.strong_apa.specs.Step.{SchedulerStep}
use Rattle.strong_apa.specs.History.{state_after_reply}
use Rattle.strong_apa.specs.Certified.{HasCertificates}
use Rattle.strong_apa.specs.Justification.{HasJustification}
use Rattle.strong_apa.specs.Passing.{Passes}
use Rattle.strong_apa.specs.Touched.{StaysOutside, touched}

-- a reply that passes leads from a state to a state
abbrev pub PassingKeepsState : Type 0
PassingKeepsState = (s : State) (event : Event) (reply : Reply) → IsState s → Passes s event reply
    → IsState (state_after_reply s event reply)

-- a reply that passes leaves each waiting task with a certificate
abbrev pub PassingKeepsCertificates : Type 0
PassingKeepsCertificates = (s : State) (event : Event) (reply : Reply) → IsState s
    → HasCertificates s → Passes s event reply → HasCertificates (state_after_reply s event reply)

-- a reply that passes is justified by the state after it
abbrev pub PassingHasJustification : Type 0
PassingHasJustification = (s : State) (event : Event) (reply : Reply) → IsState s
    → HasCertificates s → Passes s event reply
    → HasJustification s (state_after_reply s event reply) event reply

-- a reply that passes changes the occupants of the processors that it touches alone
abbrev pub PassingStaysOutside : Type 0
PassingStaysOutside = (s : State) (event : Event) (reply : Reply) → IsState s → Passes s event reply
    → StaysOutside s (state_after_reply s event reply) (touched event reply)

-- the reply of each step of the scheduler passes
abbrev pub StepPasses : Type 0
StepPasses = (s : State) (event : Event) (reply : Reply) (new : State) → IsState s
    → SchedulerStep s event reply new → Passes s event reply
