-- The contexts that tasks carried through stints, task by task.
use Rattle.std.specs.Prelude.{◌≡◌, ℕ, ◌+◌, ◌<◌, List, [], ◌∷◌, IfSome}
use Rattle.task_set.specs.Orders.{Stint}
use Rattle.task_set.specs.Context.{carried_context}
use Rattle.task_set.specs.declared.context.Context.{Context}

-- the contexts from the n-th task on, each the one that its task carried through these stints
abbrev pub AllCarried : List Stint → ℕ → List Context → Type 0
AllCarried stints n [] = Unit {0}
AllCarried stints n (c ∷ cs) = (c ≡ carried_context n stints) × AllCarried stints (n + 1) cs

-- the contexts from the n-th task on, each of its own task, with a last processor below m where it
-- has one
abbrev pub AreOwn : ℕ → ℕ → List Context → Type 0
AreOwn m n [] = Unit {0}
AreOwn m n (c ∷ cs) = (c.task ≡ n) × IfSome c.last (λ p. p < m) × AreOwn m (n + 1) cs
