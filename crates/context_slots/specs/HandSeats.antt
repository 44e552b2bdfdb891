-- What the seat of a hand is to contracts.
use Rattle.std.specs.Prelude.{◌≡◌, ℕ, Option, None, Some, List, [], ◌∷◌, All}
use Rattle.task_set.specs.declared.context.Context.{Context}
use Rattle.context_slots.specs.declared.view.OpenStint.{OpenStint}
use Rattle.context_slots.specs.declared.hand_seat.HandSeat.{HandSeat}
use Rattle.context_slots.specs.Hands.{HandData}

-- what contracts see of a hand with this seat
abbrev pub hand_data_of : HandSeat → HandData
hand_data_of a = record {
  slots = a.seat.table_id;
  number = a.number;
  holds = a.seat.me.0.holds;
  ended = a.seat.me.0.ended;
  looks = a.seat.me.0.looks;
}

-- the empty slot that goes with a stint
abbrev pub slots_of : Option OpenStint → List (ℕ × Option Context)
slots_of None = []
slots_of (Some stint) = (stint.task, None) ∷ []

-- it is one whole hand, has the slot of what it holds, and ended its stints on its own processor
pub record IsWhole (a : HandSeat) : Type 0 where
  pub parts : a.seat.me.0.parts ≡ 1
  pub slots : a.seat.me.1 ≡ slots_of a.seat.me.0.holds
  pub own : All (λ stint. stint.processor ≡ a.number) a.seat.me.0.ended

-- it is the same hand of the same slots
abbrev pub IsSameHand : HandSeat → HandSeat → Type 0
IsSameHand old new = (new.seat.table_id ≡ old.seat.table_id) × (new.number ≡ old.number)
