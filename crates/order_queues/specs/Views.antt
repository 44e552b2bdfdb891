-- What contracts see of what lies in a queue and in its ends.
use Rattle.std.specs.Prelude.{List, take}
use Rattle.crossbeam_queue.specs.Passes.{view}
use Rattle.task_set.specs.declared.order.Order.{Order}
use Rattle.order_queues.specs.declared.parts.QueueParts.{QueueParts}
use Rattle.order_queues.specs.declared.parts.SenderParts.{SenderParts}
use Rattle.order_queues.specs.declared.parts.ReceiverParts.{ReceiverParts}
use Rattle.order_queues.specs.declared.count.CountReader.{CountReader}
use Rattle.order_queues.specs.Ends.{QueueData, SenderData, ReceiverData, EyeData}

-- what is seen of a queue
abbrev pub queue_of : QueueParts → QueueData
queue_of q = record {
  lane = q.lane.table.shared.table_id;
  sent_word = q.sent.table.shared.table_id;
  received_word = q.received.table.shared.table_id;
  tasks = q.tasks;
}

-- what is seen of a sender
abbrev pub sender_of : SenderParts → SenderData
sender_of s = record {
  queue = record {
    lane = s.pass.table_id;
    sent_word = s.writer.seat.table_id;
    received_word = s.spare.seat.table_id;
    tasks = (view s.pass).tasks;
  };
  sent = (view s.pass).sent;
}

-- the orders that a receiver gave out: what came out of its queue, without what is left of the last
-- batch
abbrev pub given : ReceiverParts → List Order
given r = take r.received (view r.pass).received

-- what is seen of a receiver
abbrev pub receiver_of : ReceiverParts → ReceiverData
receiver_of r = record {
  queue = record {
    lane = r.pass.table_id;
    sent_word = r.reader.seat.table_id;
    received_word = r.writer.seat.table_id;
    tasks = (view r.pass).tasks;
  };
  received = given r;
  known = r.reader.seat.me.0.known;
  looks = r.reader.seat.me.0.looks;
}

-- what is seen of an eye
abbrev pub eye_of : CountReader → EyeData
eye_of e = record {
  received_word = e.seat.table_id;
  known = e.seat.me.0.known;
  looks = e.seat.me.0.looks;
}
