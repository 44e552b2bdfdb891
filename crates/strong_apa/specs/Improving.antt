-- No chain of shifts would bring a waiting task in without displacing a more urgent one.
use Rattle.std.specs.Prelude.{ℕ, ◌≤◌, List, length}
use Rattle.task_set.specs.TaskSet.{SetData}
use Rattle.strong_apa.specs.declared.reply.Entry.{Entry}
use Rattle.strong_apa.specs.State.{State}
use Rattle.strong_apa.specs.Chain.{IsImproving}
use Rattle.strong_apa.specs.History.{state_at}

-- no task has an improving chain
abbrev pub HasNoImprovingChain : State → Type 0
HasNoImprovingChain s = (t : ℕ) (chain : List ℕ) → IsImproving s t chain → ⊥

-- after every entry no task has an improving chain
abbrev pub HasNoImprovingChainThroughout : SetData → List Entry → Type 0
HasNoImprovingChainThroughout set history =
    (n : ℕ) → n ≤ length history → HasNoImprovingChain (state_at set history n)
