-- What contracts see of a receiver.
use Rattle.std.specs.Prelude.{◌≡◌, []}
use Rattle.crossbeam_queue.specs.Passes.{view}
use Rattle.order_queues.specs.Batches.{Sendable}
use Rattle.order_queues.specs.Ends.{ReceiverData}
use Rattle.order_queues.specs.Views.{receiver_of}
use Rattle.order_queues.specs.declared.queue.Receiver.TheInside.{Inside}

-- what is seen of the parts in it
abbrev pub receiver_data : Inside → ReceiverData
receiver_data a = receiver_of a.parts

-- its pass holds no slot of the lane between two calls, and what came out of the lane may be sent
abbrev pub IsReceiver : Inside → Type 0
IsReceiver a =
    (a.parts.pass.me.1 ≡ []) × Sendable (view a.parts.pass).tasks (view a.parts.pass).received
