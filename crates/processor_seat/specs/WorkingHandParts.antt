-- What holds of a hand and the context that it took.
use Rattle.std.specs.Prelude.{◌≡◌, Option, None, Some}
use Rattle.context_slots.specs.Contexts.{HeldContext}
use Rattle.context_slots.specs.Hands.{HandData, Took}
use Rattle.processor_seat.specs.declared.working_hand.WorkingHand.TheInside.{Inside}

-- this is what the hand took, or it holds nothing
abbrev pub HasTaken : HandData → Option HeldContext → Type 0
HasTaken hand None = hand.holds ≡ None
HasTaken hand (Some held) = Took hand held

-- the context is the one that the hand took
abbrev pub IsWorkingHand : Inside → Type 0
IsWorkingHand a = HasTaken a.hand a.held
