-- A context that was taken, and a context after stints.
use Rattle.std.specs.Prelude.{ℕ, List, fold}
use Rattle.task_set.specs.declared.context.Context.{Context}
use Rattle.task_set.specs.Orders.{Stint}
use Rattle.task_set.specs.Context.{context_after_stint}

-- a context that was taken: its task, the number of the stint, and the context
pub record HeldContext : Type 0 where
  pub task : ℕ
  pub number : ℕ
  pub context : Context

-- the context after stints, in turn
abbrev pub context_after_stints : Context → List Stint → Context
context_after_stints c stints = fold context_after_stint c stints
