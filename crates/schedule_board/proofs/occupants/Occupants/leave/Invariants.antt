use Rattle.std.proofs.Common.{◌≡◌, ℕ, ◌<◌, length, get_or, None}
use Rattle.strong_apa.specs.State.{occupant_but}
use Rattle.schedule_board.proofs.occupants.Occupants.leave.Given as goal

-- the task is on none of the processors so far
abbrev pub invariant-loop-p : goal.invariant-loop-p
invariant-loop-p l =
    (l.self.processors ≡ l.before.processors) × (length l.self.on ≡ length l.before.on)
    × ((k : ℕ) → k < l.p → get_or l.self.on k None ≡ occupant_but l.t (get_or l.before.on k None))
