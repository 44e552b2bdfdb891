-- What contracts see of a sender.
use Rattle.std.specs.Prelude.{◌≡◌, []}
use Rattle.order_queues.specs.Ends.{SenderData}
use Rattle.order_queues.specs.Views.{sender_of}
use Rattle.order_queues.specs.declared.queue.Sender.TheInside.{Inside}

-- what is seen of the parts in it
abbrev pub sender_data : Inside → SenderData
sender_data a = sender_of a.parts

-- its pass holds no slot of the lane between two calls
abbrev pub IsSender : Inside → Type 0
IsSender a = a.parts.pass.me.1 ≡ []
