-- Processors with their queues and their slots, as a replay moves them from thread to thread.
use Rattle.std.specs.Prelude.{◌≡◌, ℕ, true, None, List, [], slice_get, Some, length}
use Rattle.task_set.specs.Orders.{has_stop}
use Rattle.order_queues.specs.Ends.{QueueData}
use Rattle.context_slots.specs.Hands.{SlotsData}
use Rattle.processor_seat.specs.Stepping.{ProcessorData, IsInStep}
use Rattle.replay.specs.Places.{AllFrom}

-- the processor is of these slots, receives from the queue at its number, and is in step
pub record IsSeated (queues : List QueueData) (slots : SlotsData) (p : ProcessorData) : Type 0 where
  pub of_slots : p.hand.slots ≡ slots.id
  pub of_queue : slice_get queues p.hand.number ≡ Some p.receiver.queue
  pub in_step : IsInStep p

-- it is so seated, and its number is n
pub record IsSeatedAt (queues : List QueueData) (slots : SlotsData) (n : ℕ)
    (p : ProcessorData) : Type 0 where
  pub seated : IsSeated queues slots p
  pub number : p.hand.number ≡ n

-- it is seated there, and has received Stop
pub record HasStoppedAt (queues : List QueueData) (slots : SlotsData) (n : ℕ)
    (p : ProcessorData) : Type 0 where
  pub seated : IsSeatedAt queues slots n p
  pub stopped : has_stop p.receiver.received ≡ true

-- it is the processor of number n, of these slots and of the queue at n, and has done nothing: its
-- hand holds nothing and has ended no stint, nothing was received, and no order is pending
pub record IsIdleAt (queues : List QueueData) (slots : SlotsData) (n : ℕ)
    (p : ProcessorData) : Type 0 where
  pub number : p.hand.number ≡ n
  pub of_slots : p.hand.slots ≡ slots.id
  pub of_queue : slice_get queues n ≡ Some p.receiver.queue
  pub holds : p.hand.holds ≡ None
  pub ended : p.hand.ended ≡ []
  pub received : p.receiver.received ≡ []
  pub pending : p.pending ≡ None

-- one idle processor for each queue, in order
pub record AreIdle (queues : List QueueData) (slots : SlotsData)
    (processors : List ProcessorData) : Type 0 where
  pub one_each : length processors ≡ length queues
  pub each : AllFrom (IsIdleAt queues slots) 0 processors
