use Rattle.std.proofs.Common.{ℕ, ◌-◌, ◌^◌, List}
use Rattle.strong_apa.specs.State.{State, priority_of}
use Rattle.weak_apa.specs.Stable.{IsToBePlaced}
use Rattle.weak_apa.specs.Step.{IsPlacedInTurns}
use Rattle.weak_apa.proofs.arrival.place.Given as goal

-- whoever is to be placed next, the turns of it complete those of the first
abbrev pub invariant-loop-out : goal.invariant-loop-out
invariant-loop-out l = record {
  next : IsToBePlaced l.links l.guest;
  completes : (displaced : List ℕ) (new : State) → IsPlacedInTurns l.links l.guest displaced new
      → (all : List ℕ) × IsPlacedInTurns l.fn.links l.fn.t all new;
}

abbrev pub decreases-loop-out : goal.decreases-loop-out
decreases-loop-out l = 2 ^ 32 - priority_of l.links l.guest
