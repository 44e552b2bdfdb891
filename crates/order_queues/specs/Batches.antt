-- Orders that go through the queue at once, in their order.
use Rattle.std.specs.Prelude.{ℕ, Option, Some, None, List, [], ◌∷◌, ◌++◌, All}
use Rattle.task_set.specs.declared.order.Order.{Order}
use Rattle.task_set.specs.Orders.{IsObeyable, NamesTaskBelow}
use Rattle.order_queues.specs.declared.batch.Batch.{Batch}
use Rattle.order_queues.specs.declared.batch.Rest.{Rest}

-- the order at a place and those after it, or none where the place is empty
abbrev pub from_place : Option Order → List Order → List Order
from_place None others = []
from_place (Some order) others = order ∷ others

-- the orders before the first place that is empty
abbrev pub left_in : Rest → List Order
left_in rest = from_place rest.first (from_place rest.second (from_place rest.third []))

-- the orders of a batch
abbrev pub batch_orders : Batch → List Order
batch_orders batch = batch.first ∷ left_in batch.rest

-- the orders of batches, one batch after the other
abbrev pub orders_in : List Batch → List Order
orders_in [] = []
orders_in (batch ∷ batches) = batch_orders batch ++ orders_in batches

-- orders that may be sent for so many tasks: obeyable, and each names a task below that number
abbrev pub Sendable : ℕ → List Order → Type 0
Sendable tasks orders = IsObeyable orders × All (NamesTaskBelow tasks) orders
