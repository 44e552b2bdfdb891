-- What a drive of processors leaves: the same processors in the same order, each of which is in
-- step and has stopped.
use Rattle.std.specs.Prelude.{◌≡◌, ℕ, true, List}
use Rattle.atomic_table.specs.Seated.{TableId}
use Rattle.task_set.specs.Orders.{has_stop}
use Rattle.order_queues.specs.Ends.{QueueData}
use Rattle.context_slots.specs.Hands.{SlotsData}
use Rattle.processor_seat.specs.Stepping.{ProcessorData}
use Rattle.replay.specs.Seats.{IsSeated}

-- which processor it is: the slots and the number of its hand, and the queue of its receiver
pub record SeatData : Type 0 where
  pub slots : TableId
  pub number : ℕ
  pub queue : QueueData

abbrev pub seat_of : ProcessorData → SeatData
seat_of p = record { slots = p.hand.slots; number = p.hand.number; queue = p.receiver.queue }

-- it is of these slots, of the queue with its number, and in step, and has received Stop
pub record IsDone (queues : List QueueData) (slots : SlotsData) (p : ProcessorData) : Type 0 where
  pub seated : IsSeated queues slots p
  pub stopped : has_stop p.receiver.received ≡ true
