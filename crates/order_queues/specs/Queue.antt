-- The rule of the queue: what was sent is what was received, followed by the orders of the batches
-- that lie in the queue.
use Rattle.std.specs.Prelude.{◌≡◌, ℕ, Bool, true, List, ◌++◌, All}
use mathlib.Core.Option.{some}
use lib.ListN.{get_elem?}
use Rattle.task_set.specs.declared.order.Order.{Order}
use Rattle.task_set.specs.Orders.{IsObeyable, NamesTaskBelow}
use Rattle.order_queues.specs.declared.batch.Batch.{Batch}
use Rattle.order_queues.specs.declared.lane.EndView.{EndView}
use Rattle.order_queues.specs.Batches.{orders_in}

-- what an end may do (push, pop), what it pushed and popped, and the number of tasks of its queue
abbrev pub end_view : Bool → Bool → List Order → List Order → ℕ → EndView
end_view pushes pops sent received tasks =
    record { pushes = pushes; pops = pops; sent = sent; received = received; tasks = tasks }

-- a pass that may push is the one that pushes, and it has pushed all that was sent
abbrev pub PushesAll : ℕ → List Order → ℕ → ℕ → EndView → Type 0
PushesAll pusher sent tasks pass v =
    v.pushes ≡ true → (pass ≡ pusher) × (v.sent ≡ sent) × (v.tasks ≡ tasks)

-- a pass that may pop is the one that pops, and it has popped all that was received
abbrev pub PopsAll : ℕ → List Order → ℕ → ℕ → EndView → Type 0
PopsAll popper received tasks pass v =
    v.pops ≡ true → (pass ≡ popper) × (v.received ≡ received) × (v.tasks ≡ tasks)

-- between any two steps: what was sent is what was received, followed by the orders of the batches
-- in the queue; one pass alone pushes and one alone pops; what was sent is obeyable, and each task
-- that it names is below the number of tasks
pub record QueueRule (items : List Batch) (views : List EndView) : Type 0 where
  pub pusher : ℕ
  pub popper : ℕ
  pub sent : List Order
  pub received : List Order
  pub tasks : ℕ
  pub in_order : sent ≡ received ++ orders_in items
  pub push : (pass : ℕ) (v : EndView) → get_elem? views pass ≡ some v
      → PushesAll pusher sent tasks pass v
  pub pop : (pass : ℕ) (v : EndView) → get_elem? views pass ≡ some v
      → PopsAll popper received tasks pass v
  pub obeyable : IsObeyable sent
  pub below : All (NamesTaskBelow tasks) sent
