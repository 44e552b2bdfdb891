use Rattle.std.proofs.Common.{◌≡◌, drop, Some}
use Rattle.strong_apa.specs.State.{State}
use Rattle.strong_apa.specs.Chain.{occupant_after_shift}
use Rattle.schedule_board.specs.Links.{ShowsLinks}
use Rattle.schedule_board.proofs.occupants.Occupants.after_shift.Given as goal

-- the rest of the chain decides, once the guest has come to it
abbrev pub invariant-loop-q : goal.invariant-loop-q
invariant-loop-q l =
    (s : State) → ShowsLinks s l.self → occupant_after_shift s l.guest (drop l.q-index l.chain) l.p
    ≡ occupant_after_shift s (Some l.t) l.chain l.p
