use Rattle.std.proofs.Common.{◌≡◌, ℕ, ◌<◌, length, get_or, None}
use Rattle.strong_apa.specs.State.{State, task_on}
use Rattle.strong_apa.specs.Chain.{state_after_shift}
use Rattle.schedule_board.specs.Links.{ShowsLinks}
use Rattle.schedule_board.proofs.occupants.Occupants.shift.Given as goal

-- the processors so far are as after the shift
abbrev pub invariant-loop-p : goal.invariant-loop-p
invariant-loop-p l =
    (l.self.processors ≡ l.before.processors) × (length l.self.on ≡ length l.before.on)
    × ((s : State) → ShowsLinks s l.before → (k : ℕ) → k < l.p → get_or l.self.on k None ≡ task_on (state_after_shift s l.t l.chain) k)
