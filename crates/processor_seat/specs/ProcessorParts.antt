-- What contracts see of a processor's parts, and what holds of them in every processor.
use Rattle.std.specs.Prelude.{◌≡◌, ℕ, List, All}
use Rattle.task_set.specs.Orders.{IsObeyable, NamesTaskBelow, Stint, has_stop}
use Rattle.processor_seat.specs.Stepping.{ProcessorData}
use Rattle.processor_seat.specs.declared.processor.Processor.TheInside.{Inside}

-- what contracts see of it
abbrev pub processor_data : Inside → ProcessorData
processor_data a = record { hand = a.hand; pending = a.pending; receiver = a.receiver }

-- these stints ended on this processor
abbrev pub AllOn : ℕ → List Stint → Type 0
AllOn p stints = All (λ (stint : Stint). stint.processor ≡ p) stints

-- it knows whether Stop was received; what it received can be obeyed; and its stints are its own
pub record IsProcessor (a : Inside) : Type 0 where
  pub number : a.number ≡ a.hand.number
  pub stopped : a.stopped ≡ has_stop a.receiver.received
  pub obeyable : IsObeyable a.receiver.received
  pub below : All (NamesTaskBelow a.receiver.queue.tasks) a.receiver.received
  pub ended : AllOn a.hand.number a.hand.ended
