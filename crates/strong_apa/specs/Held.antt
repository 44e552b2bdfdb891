-- One processor of a certificate. A processor of a set is held against a task where its occupant is
-- more urgent than the task and may run nowhere but on the set. A set certifies a task where the
-- task may run nowhere but on the set either, and each processor of the set is held against it.
use Rattle.std.specs.Prelude.{◌≡◌, ℕ, Some}
use Rattle.affinity_mask.specs.ProcSet.{Within}
use Rattle.strong_apa.specs.State.{State, effective_mask, task_on, IsMoreUrgent}

-- the occupant of p is more urgent than w, and may run only within the set
abbrev pub IsHeldAgainst : State → ℕ → ℕ → ℕ → Type 0
IsHeldAgainst s w set p =
    (u : ℕ) × (task_on s p ≡ Some u) × IsMoreUrgent s u w × Within (effective_mask s u) set
