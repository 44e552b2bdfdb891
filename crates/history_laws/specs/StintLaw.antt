-- Stints and contexts. After the close of a history the orders of all processors together have the
-- stints of each task; a task that went through its stints in the order of their numbers, and
-- carried its context from each to the next, has the context that the history gives it. Its stints
-- are the takes of the history.
use Rattle.std.specs.Prelude.{◌≡◌, ℕ, List, map, length}
use Rattle.std.specs.List.{range_with_len, flat_map}
use Rattle.task_set.specs.TaskSet.{SetData, IsTaskSet}
use Rattle.task_set.specs.Orders.{Stint, stints_in}
use Rattle.task_set.specs.Context.{carried_context, stints_of_task}
use Rattle.strong_apa.specs.declared.reply.Entry.{Entry}
use Rattle.strong_apa.specs.State.{State, IsState, start_of}
use Rattle.strong_apa.specs.History.{IsLegal, IsLegalFrom}
use Rattle.strong_apa.specs.Dispatch.{closed_orders_of, context_of, processors_of}
use Rattle.history_laws.specs.Start.{NobodyIsReady}

-- the stints that a history from `start` and its close order, processor by processor
abbrev pub stints_of_history : State → List Entry → List Stint
stints_of_history start history = flat_map (λ p. stints_in p (closed_orders_of start history p))
    (range_with_len 0 start.processors)

-- the context that a task carries through its stints on all processors is the one that the history
-- gives it
abbrev pub StintsGiveContextFrom : Type 0
StintsGiveContextFrom = (start : State) (history : List Entry) (t : ℕ) → IsState start
    → NobodyIsReady start → IsLegalFrom start history
    → carried_context t (stints_of_history start history) ≡ context_of start history t

-- so it is by a history of a set
abbrev pub StintsGiveContext : Type 0
StintsGiveContext =
    (set : SetData) (history : List Entry) (t : ℕ) → IsTaskSet set → IsLegal set history
    → carried_context t (stints_of_history (start_of set) history)
    ≡ context_of (start_of set) history t

-- these stints are the takes on these processors, numbered from 0 on
pub record AreTakes (stints : List Stint) (taken : List ℕ) : Type 0 where
  pub numbers : map (λ stint. stint.number) stints ≡ range_with_len 0 (length taken)
  pub processors : map (λ stint. stint.processor) stints ≡ taken

-- the stints of a task, in order of their numbers, are the takes by which the history takes it
abbrev pub StintsAreTakesFrom : Type 0
StintsAreTakesFrom = (start : State) (history : List Entry) (t : ℕ) → IsState start
    → NobodyIsReady start → IsLegalFrom start history
    → AreTakes (stints_of_task t (stints_of_history start history)) (processors_of start history t)

-- so they are by a history of a set
abbrev pub StintsAreTakes : Type 0
StintsAreTakes =
    (set : SetData) (history : List Entry) (t : ℕ) → IsTaskSet set → IsLegal set history
    → AreTakes (stints_of_task t (stints_of_history (start_of set) history))
    (processors_of (start_of set) history t)
