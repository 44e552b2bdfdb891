-- Which ends are of which queue.
use Rattle.std.specs.Prelude.{◌≡◌}
use Rattle.crossbeam_queue.specs.Passes.{IsPassOf}
use Rattle.order_queues.specs.declared.parts.QueueParts.{QueueParts}
use Rattle.order_queues.specs.declared.parts.SenderParts.{SenderParts}
use Rattle.order_queues.specs.declared.parts.ReceiverParts.{ReceiverParts}
use Rattle.order_queues.specs.declared.count.CountReader.{CountReader}

-- its pass is of the queue's lane, it writes the number sent, and its spare reader looks at the
-- number received
abbrev pub IsSenderOf : QueueParts → SenderParts → Type 0
IsSenderOf q s =
    IsPassOf q.lane s.pass
    × (s.writer.seat.table_id ≡ q.sent.table.shared.table_id)
    × (s.spare.seat.table_id ≡ q.received.table.shared.table_id)

-- its pass is of the queue's lane, it writes the number received, and its reader looks at the
-- number sent
abbrev pub IsReceiverOf : QueueParts → ReceiverParts → Type 0
IsReceiverOf q r =
    IsPassOf q.lane r.pass
    × (r.writer.seat.table_id ≡ q.received.table.shared.table_id)
    × (r.reader.seat.table_id ≡ q.sent.table.shared.table_id)

-- it looks at the number received
abbrev pub IsEyeOf : QueueParts → CountReader → Type 0
IsEyeOf q e = e.seat.table_id ≡ q.received.table.shared.table_id
