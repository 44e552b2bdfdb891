-- What a task has run. A context counts units, stints and moves modulo 2^64, knows the last
-- processor, and has a trail into which each run mixes its units and its processor, in order; a
-- task carries its context from stint to stint, in the order of the stints' numbers.
use Rattle.std.specs.Prelude.{ℕ, ◌+◌, ◌*◌, ◌%◌, ◌^◌, Option, None, Some, if◌then◌else◌, ◌==◌}
use Rattle.std.specs.Prelude.{nat_lt, List, [], ◌∷◌, fold}
use Rattle.task_set.specs.declared.context.Context.{Context}
use Rattle.task_set.specs.Orders.{Stint}

-- the context of a task of which nothing ran: zeros, no last processor, and the task's number as
-- trail
abbrev pub fresh_context : ℕ → Context
fresh_context t = record { task = t; units = 0; stints = 0; moves = 0; last = None; trail = t }

-- a task moves where it is taken on another processor than the last
abbrev pub moves_after_take : Option ℕ → ℕ → ℕ → ℕ
moves_after_take None p moves = moves
moves_after_take (Some last) p moves = if last == p then moves else (moves + 1) % 2 ^ 64

-- the context after a take on p
abbrev pub context_after_take : Context → ℕ → Context
context_after_take c p = record c {
  stints = (c.stints + 1) % 2 ^ 64;
  moves = moves_after_take c.last p c.moves;
  last = Some p;
}

-- the context after a run of u units on p
abbrev pub context_after_run : Context → ℕ → ℕ → Context
context_after_run c p u = record c {
  units = (c.units + u) % 2 ^ 64;
  trail = (c.trail * 6364136223846793005 + 64 * u + p) % 2 ^ 64;
}

-- the context after runs of these units on p, in turn
abbrev pub context_after_runs : Context → ℕ → List ℕ → Context
context_after_runs c p units = fold (λ c u. context_after_run c p u) c units

-- the context after a stint: the take on its processor, then its runs
abbrev pub context_after_stint : Context → Stint → Context
context_after_stint c stint =
    context_after_runs (context_after_take c stint.processor) stint.processor stint.units

-- a stint in its place among stints in order of their numbers
abbrev pub with_stint : Stint → List Stint → List Stint
with_stint stint [] = stint ∷ []
with_stint stint (next ∷ later) =
    if nat_lt stint.number next.number then stint ∷ next ∷ later else next ∷ with_stint stint later

-- the stints of a task, in order of their numbers
abbrev pub stints_of_task : ℕ → List Stint → List Stint
stints_of_task t [] = []
stints_of_task t (stint ∷ others) =
    if stint.task == t then with_stint stint (stints_of_task t others) else stints_of_task t others

-- the context that a task carried: the fresh one, with the take and the runs of each of its stints
-- in order of number
abbrev pub carried_context : ℕ → List Stint → Context
carried_context t stints = fold context_after_stint (fresh_context t) (stints_of_task t stints)
