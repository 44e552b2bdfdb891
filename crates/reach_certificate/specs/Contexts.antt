-- Contexts that follow the entries of a history. At an entry a task is taken on each processor to
-- which it comes, and a tick then runs it where it was linked; no other context changes.
use Rattle.std.specs.Prelude.{◌≡◌, ℕ, ◌<◌, List, length, get_or, fold, Option}
use Rattle.task_set.specs.Context.{context_after_take, context_after_run}
use Rattle.task_set.specs.declared.context.Context.{Context}
use Rattle.task_set.specs.declared.event.Event.{Event}
use Rattle.strong_apa.specs.State.{State}
use Rattle.strong_apa.specs.Dispatch.{places_of, taken_between, tick_runs}

-- the contexts by the numbers of their tasks, and the occupant of each processor when they last
-- followed an entry
pub record ContextsData : Type 0 where
  pub each : List Context
  pub held : List (Option ℕ)

-- the context after takes on these processors, in turn
abbrev pub context_after_takes : Context → List ℕ → Context
context_after_takes context places = fold context_after_take context places

-- the context after these runs, in turn, each a processor and the units
abbrev pub context_after_all_runs : Context → List (ℕ × ℕ) → Context
context_after_all_runs context runs = fold (λ c run. context_after_run c run.0 run.1) context runs

-- the context of t after an entry that leads from one state to another
abbrev pub context_after_entry : State → State → Event → ℕ → Context → Context
context_after_entry old new event t context =
    context_after_all_runs (context_after_takes context (taken_between old new t))
    (tick_runs event (places_of old t))

-- the context of each task t becomes what `after` says of it
pub record EachBecomes (after : ℕ → Context → Context) (old new : List Context) : Type 0 where
  pub count : length new ≡ length old
  pub each : (t : ℕ) (d : Context) → t < length old → get_or new t d ≡ after t (get_or old t d)

-- contexts that held the occupants before an entry follow it, and hold those after it
pub record HaveFollowed (old new : State) (event : Event)
    (before after : ContextsData) : Type 0 where
  pub each : EachBecomes (context_after_entry old new event) before.each after.each
  pub held : after.held ≡ new.on
