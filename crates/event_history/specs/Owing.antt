-- Which orders may be sent through a queue.
use Rattle.std.specs.Prelude.{◌≡◌, ℕ, ◌+◌, ◌*◌, ◌≤◌, List, length, slice_get, Some, All}
use Rattle.task_set.specs.declared.order.Order.{Order}
use Rattle.task_set.specs.Orders.{IsObeyable, NamesTaskBelow}
use Rattle.order_queues.specs.Ends.{QueueData}
use Rattle.sched_core.specs.CoreData.{CoreData, core_orders, max_entries}

-- the most orders of a core to one processor: two for each entry, and two at the close
abbrev pub most_orders : ℕ
most_orders = 2 * max_entries + 2

-- these orders may be sent, in this order, through a queue for so many tasks
pub record MaySend (tasks : ℕ) (orders : List Order) : Type 0 where
  pub obeyable : IsObeyable orders
  pub below : All (NamesTaskBelow tasks) orders
  pub few : length orders ≤ most_orders

-- the orders of each processor may be sent
abbrev pub AllMaySend : List QueueData → CoreData → Type 0
AllMaySend queues core =
    (p : ℕ) (q : QueueData) → slice_get queues p ≡ Some q → MaySend q.tasks (core_orders core p)
