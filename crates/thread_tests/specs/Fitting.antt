-- Queues that were made for as many tasks as a set has: a fact with one value, so that a struct may
-- carry it.
use Rattle.std.specs.Prelude.{List, [], ◌∷◌, length}
use native.Mathlib.Nat.{ℕ_set}
use mathlib.Core.HLevel.{×_prop, Unit-prop}
use Rattle.task_set.specs.TaskSet.{SetData}
use Rattle.order_queues.specs.Ends.{QueueData}
use Rattle.event_history.specs.Boards.{AreFor}

pub are_for-prop : (set : SetData) (queues : List QueueData) → IsProp (AreFor set queues)
are_for-prop set [] = Unit-prop
are_for-prop set (queue ∷ rest) =
    ×_prop (ℕ_set queue.tasks (length set.tasks)) (are_for-prop set rest)
