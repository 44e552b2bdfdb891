-- Certificates. A set of processors certifies that a task rightly waits where the task may run only
-- there, and each processor of the set is occupied by a more urgent task that may run only there as
-- well. As many tasks as the set has processors, all more urgent, then compete for nothing but this
-- set: it is full without w.
use Rattle.std.specs.Prelude.{◌≡◌, ℕ, IsTrue, Some}
use Rattle.affinity_mask.specs.ProcSet.{has, Within}
use Rattle.strong_apa.specs.State.{State, effective_mask, task_on, IsMoreUrgent}

-- the set certifies w: w may run only within it, and each of its processors has a more urgent task
-- that does too
pub record IsCertificate (s : State) (w set : ℕ) : Type 0 where
  pub within : Within (effective_mask s w) set
  pub occupied : (p : ℕ) → IsTrue (has set p) → (u : ℕ) × (task_on s p ≡ Some u)
      × IsMoreUrgent s u w × Within (effective_mask s u) set
