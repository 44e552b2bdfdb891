use Rattle.std.proofs.Common.{◌≡◌, ℕ, ◌<◌, ◌≤◌, false, get_or, None, is_some}
use Rattle.affinity_mask.specs.ProcSet.{has}
use Rattle.schedule_board.proofs.occupants.Occupants.linked.Given as goal

-- of the processors so far just the occupied ones are in
abbrev pub invariant-loop-p : goal.invariant-loop-p
invariant-loop-p l =
    ((k : ℕ) → k < l.p → has l.linked k ≡ is_some (get_or l.self.on k None)) × ((k : ℕ) → l.p ≤ k → has l.linked k ≡ false)
