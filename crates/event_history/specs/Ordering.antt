-- The orders that a pass sees: those of the history that it has seen, and of the close where it saw
-- the close.
use Rattle.std.specs.Prelude.{ℕ, List, if◌then◌else◌}
use Rattle.task_set.specs.TaskSet.{SetData}
use Rattle.task_set.specs.declared.order.Order.{Order}
use Rattle.strong_apa.specs.State.{start_of}
use Rattle.strong_apa.specs.Dispatch.{orders_of, closed_orders_of}
use Rattle.event_history.specs.Boards.{PassData}

-- the orders to p that the pass sees
abbrev pub orders_seen : SetData → PassData → ℕ → List Order
orders_seen set pass p = if pass.saw_close then closed_orders_of (start_of set) pass.seen p
    else orders_of (start_of set) pass.seen p
