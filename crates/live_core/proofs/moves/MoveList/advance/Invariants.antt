use Rattle.std.proofs.Common.{◌≡◌, ℕ, ◌-◌, ◌++◌, length, drop, None}
use Rattle.live_core.specs.Moves.{occupant_at}
use Rattle.live_core.specs.MoveData.{DoesMore, occupant_passed, shifts_along}
use Rattle.live_core.proofs.moves.MoveList.advance.Given as goal

abbrev pub invariant-loop-i : goal.invariant-loop-i
invariant-loop-i l = record {
  added : l.self.moves ≡ l.initial.self.moves ++ shifts_along l.initial.self.occupants (drop (length l.chain - l.i) l.chain);
  more : DoesMore (l.i - 1) l.initial.self l.self;
  passed : (p : ℕ) → occupant_at l.self.occupants p ≡ occupant_passed l.initial.self.occupants None (drop (length l.chain - l.i) l.chain) p;
}
