-- What contracts see of a processor, when it is in step, and what a step does. A step obeys the
-- order that is pending, and else the next one that was sent.
use Rattle.std.specs.Prelude.{◌≡◌, ◌≢◌, ℕ, ◌<◌, ◌⊎◌, Bool, true, false, Option, None, Some}
use Rattle.std.specs.Prelude.{option_to_list, List, [], ◌∷◌, ◌++◌}
use Rattle.task_set.specs.declared.order.Order.{Order}
use Rattle.task_set.specs.declared.order.Order.TheVariants.{Stop}
use Rattle.task_set.specs.Orders.{has_stop}
use Rattle.order_queues.specs.Ends.{ReceiverData, Receives}
use Rattle.context_slots.specs.Hands.{HandData}
use Rattle.processor_seat.specs.Obeying.{orders_obeyed, Obeys, IsMissed}
use Rattle.processor_seat.specs.declared.answer.Step.{Step}
use Rattle.processor_seat.specs.declared.answer.Step.TheVariants.{Did, Empty, NotTurn, Stopped}

-- its hand, the order that was received and not obeyed yet, and its end of the queue
pub record ProcessorData : Type 0 where
  pub hand : HandData
  pub pending : Option Order
  pub receiver : ReceiverData

-- Stop, where it was received
abbrev pub stop_if : Bool → List Order
stop_if true = Stop ∷ []
stop_if false = []

-- what was received is what was obeyed, then the pending order, then Stop; and nothing is pending
-- once Stop was received
pub record IsInStep (p : ProcessorData) : Type 0 where
  pub received : p.receiver.received
      ≡ orders_obeyed p.hand ++ (option_to_list p.pending ++ stop_if (has_stop p.receiver.received))
  pub stopped : has_stop p.receiver.received ≡ true → p.pending ≡ None
  pub pending : p.pending ≢ Some Stop

-- the processor is of the same slots and queue, and has the same number
pub record IsSameSeat (old new : ProcessorData) : Type 0 where
  pub slots : new.hand.slots ≡ old.hand.slots
  pub number : new.hand.number ≡ old.hand.number
  pub queue : new.receiver.queue ≡ old.receiver.queue

-- the order was pending, or no order was and `next` gave it
abbrev pub IsFetched : ProcessorData → Order → ReceiverData → Type 0
IsFetched old order receiver =
    ((old.pending ≡ Some order) × (receiver ≡ old.receiver))
    ⊎ ((old.pending ≡ None) × Receives old.receiver (Some order) receiver)

-- the order was obeyed, and is never Stop
pub record HasDone (old : ProcessorData) (order : Order) (new : ProcessorData) : Type 0 where
  pub order_is : order ≢ Stop
  pub fetched : IsFetched old order new.receiver
  pub obeyed : Obeys order old.hand new.hand
  pub pending : new.pending ≡ None

-- the order is a Take that is not at its turn, and stays pending
pub record HasMissed (old : ProcessorData) (task found : ℕ) (new : ProcessorData) : Type 0 where
  pub order : Order
  pub fetched : IsFetched old order new.receiver
  pub missed : IsMissed order task found old.hand new.hand
  pub pending : new.pending ≡ Some order

-- no order was pending, `next` gave none, and Stop was not received
pub record FoundNone (old new : ProcessorData) : Type 0 where
  pub pending : old.pending ≡ None
  pub hand : new.hand ≡ old.hand
  pub pending_now : new.pending ≡ None
  pub none_came : Receives old.receiver None new.receiver
  pub not_stopped : has_stop new.receiver.received ≡ false

-- Stop was received, before or now
pub record HasStopped (old new : ProcessorData) : Type 0 where
  pub hand : new.hand ≡ old.hand
  pub received : has_stop new.receiver.received ≡ true
  pub fetched : (new ≡ old) ⊎ Receives old.receiver (Some Stop) new.receiver

-- what a step answers
abbrev pub StepAnswer : ProcessorData → Step → ProcessorData → Type 0
StepAnswer old (Did order) new = HasDone old order new
StepAnswer old Empty new = FoundNone old new
StepAnswer old (NotTurn task found) new = HasMissed old task found new
StepAnswer old Stopped new = HasStopped old new

-- a try to obey the order that came last
abbrev pub TryAnswer : ProcessorData → Order → Step → ProcessorData → Type 0
TryAnswer old order (Did done) new =
    (done ≡ order) × Obeys order old.hand new.hand × (new.pending ≡ None)
TryAnswer old order Empty new = ⊥
TryAnswer old order (NotTurn task found) new =
    IsMissed order task found old.hand new.hand × (new.pending ≡ Some order)
TryAnswer old order Stopped new = ⊥

-- the task that has another turn is below this number
abbrev pub MissesBelow : ℕ → Step → Type 0
MissesBelow tasks (NotTurn task found) = task < tasks
MissesBelow tasks (Did order) = Unit {0}
MissesBelow tasks Empty = Unit {0}
MissesBelow tasks Stopped = Unit {0}

-- it received Stop in step, or it received nothing and its hand holds nothing
abbrev pub IsFinished : ProcessorData → Type 0
IsFinished p =
    (IsInStep p × (has_stop p.receiver.received ≡ true))
    ⊎ ((p.receiver.received ≡ []) × (p.hand.holds ≡ None))
