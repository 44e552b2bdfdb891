-- What lies at home at the end, when one hand has taken in all others.
use Rattle.std.specs.Prelude.{◌≡◌, ℕ, ◌+◌, List, [], ◌∷◌}
use Rattle.task_set.specs.Orders.{Stint}
use Rattle.task_set.specs.Context.{fresh_context, stints_of_task}
use Rattle.task_set.specs.declared.context.Context.{Context}
use Rattle.context_slots.specs.Contexts.{context_after_stints}
use Rattle.context_slots.specs.HandOver.{of_task, IsNumbered}
use Rattle.task_set.specs.Sum.{total}

-- the context is the fresh one after a numbered log of the task's stints, which has each of these
-- stints of the task once
abbrev pub Came : List Stint → ℕ → Context → Type 0
Came all t c = (log : List Stint) × IsNumbered t 0 log
    × ((h : Stint → ℕ) → total (of_task t h) all ≡ total h log)
    × (c ≡ context_after_stints (fresh_context t) log)

-- the contexts from the n-th on, each after its task's stints
abbrev pub AllCame : List Stint → ℕ → List Context → Type 0
AllCame all n [] = Unit {0}
AllCame all n (c ∷ cs) = Came all n c × AllCame all (n + 1) cs

-- a numbered log that has each stint of the task once is the list of the task's stints in the order
-- of their numbers
abbrev pub StintsAreTheLog : Type 0
StintsAreTheLog = (t : ℕ) (all log : List Stint) → IsNumbered t 0 log
    → ((h : Stint → ℕ) → total (of_task t h) all ≡ total h log) → stints_of_task t all ≡ log
