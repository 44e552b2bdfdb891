-- What contracts see of a hand.
use Rattle.context_slots.specs.Hands.{HandData}
use Rattle.context_slots.specs.HandSeats.{hand_data_of, IsWhole}
use Rattle.context_slots.specs.declared.hand.Hand.TheInside.{Inside}

-- what its seat says
abbrev pub hand_data : Inside → HandData
hand_data a = hand_data_of a.hand_seat

-- what holds of every hand
abbrev pub IsAtHand : Inside → Type 0
IsAtHand a = IsWhole a.hand_seat
