-- What holds of every scheduler's step, whatever program takes it. Each law is proved as the
-- contract of a function of `laws`.
use Rattle.std.specs.Prelude.{◌≡◌, ℕ, ◌<◌, ◌≤◌, true, List, length}
use Rattle.task_set.specs.Event.{IsOfVersion}
use Rattle.task_set.specs.declared.event.Event.{Event}
use Rattle.strong_apa.specs.declared.reply.Reply.{Reply}
use Rattle.strong_apa.specs.State.{State, IsState, HasSameTasks, HasSameMasks, task_count}
use Rattle.strong_apa.specs.Chain.{IsSimple, IsLeastSuch, EndsIdle, EndsOnTask, EntersBy}
use Rattle.strong_apa.specs.Placement.{TaskTest, IsBest}
use Rattle.strong_apa.specs.Step.{SchedulerStep}
use Rattle.strong_apa.specs.History.{state_after_reply}

-- one state and one event have at most one reply and one new state
abbrev pub StepIsUnique : Type 0
StepIsUnique = (s : State) (event : Event) (reply other : Reply) (new next : State) → IsState s
    → SchedulerStep s event reply new → SchedulerStep s event other next
    → (reply ≡ other) × (new ≡ next)

-- the new state follows from the event and the reply
abbrev pub ReplyGivesNewState : Type 0
ReplyGivesNewState = (s : State) (event : Event) (reply : Reply) (new : State)
    → SchedulerStep s event reply new → new ≡ state_after_reply s event reply

-- no reply changes the tasks and the processors
abbrev pub ReplyKeepsTasks : Type 0
ReplyKeepsTasks =
    (s : State) (event : Event) (reply : Reply) → HasSameTasks s (state_after_reply s event reply)

-- of the first version of an input, no event changes the masks, nor which processors are on line
abbrev pub ReplyKeepsMasks : Type 0
ReplyKeepsMasks = (s : State) (event : Event) (reply : Reply) → IsOfVersion 1 event
    → HasSameMasks s (state_after_reply s event reply)

-- a step leads from a state to a state: its links are a placement of ready tasks again
abbrev pub StepKeepsState : Type 0
StepKeepsState = (s : State) (event : Event) (reply : Reply) (new : State) → IsState s
    → SchedulerStep s event reply new → IsState new

-- a least list with the property visits no processor twice, and so it has at most 64
pub record LeastIsShort (Has : List ℕ → Type 0) : Type 0 where
  pub exists : (chain : List ℕ) → Has chain → (least : List ℕ) × IsLeastSuch Has least
  pub simple : (least : List ℕ) → IsLeastSuch Has least → IsSimple least
  pub fits : (least : List ℕ) → IsLeastSuch Has least → length least ≤ 64

-- of the chains of t to idle processors, where there are any, one is the least, and it is short
abbrev pub LeastChainToIdle : Type 0
LeastChainToIdle = (s : State) (t : ℕ) → IsState s → LeastIsShort (EndsIdle s t)

-- of the chains of t to the processor of d, where there are any, one is the least, and it is short
abbrev pub LeastChainToTask : Type 0
LeastChainToTask = (s : State) (t d : ℕ) → IsState s → LeastIsShort (EndsOnTask s t d)

-- of the back chains to p at whose end w can enter, where there are any, one is the least, and it
-- is short
abbrev pub LeastBackChain : Type 0
LeastBackChain =
    (s : State) (p w : ℕ) → IsState s → p < s.processors → LeastIsShort (EntersBy s p w)

-- a set of tasks has at most one best subset
abbrev pub BestIsUnique : Type 0
BestIsUnique = (s : State) (R best other : TaskTest) → ((t : ℕ) → R t ≡ true → t < task_count s)
    → IsBest s R best → IsBest s R other → (t : ℕ) → best t ≡ other t
