-- Laws of the scheduler's step: it is there. Each law is proved as the contract of a function of
-- `laws`.
use Rattle.std.specs.Prelude.{◌≡◌, ℕ, List, length, map, All}
use Rattle.task_set.specs.TaskSet.{SetData, IsTaskSet}
use Rattle.task_set.specs.Event.{IsOfSystem}
use Rattle.task_set.specs.declared.event.Event.{Event}
use Rattle.strong_apa.specs.declared.reply.Reply.{Reply}
use Rattle.strong_apa.specs.declared.reply.Entry.{Entry}
use Rattle.strong_apa.specs.State.{State, IsState}
use Rattle.strong_apa.specs.Step.{IsEventFor, SchedulerStep}
use Rattle.strong_apa.specs.History.{IsLegal}

-- in every state, at every event of one of its tasks or processors, the scheduler has a step
abbrev pub StepExists : Type 0
StepExists = (s : State) (event : Event) → IsState s → IsEventFor s event
    → (reply : Reply) × (new : State) × SchedulerStep s event reply new

-- who posted an entry, and the event that it is of
abbrev pub caller_and_event : Entry → ℕ × Event
caller_and_event entry = (entry.caller, entry.event)

-- events of the tasks and processors of a set, each with its caller, have a legal history: one
-- entry for each event, in their order
abbrev pub LegalHistoryExists : Type 0
LegalHistoryExists = (set : SetData) (events : List (ℕ × Event)) → IsTaskSet set
    → All (λ posted. IsOfSystem set.processors (length set.tasks) posted.1) events
    → (history : List Entry) × IsLegal set history × (map caller_and_event history ≡ events)

-- two legal histories with the same callers and events are one
abbrev pub LegalHistoryIsUnique : Type 0
LegalHistoryIsUnique = (set : SetData) (history other : List Entry) → IsTaskSet set
    → IsLegal set history → IsLegal set other
    → map caller_and_event history ≡ map caller_and_event other → history ≡ other
