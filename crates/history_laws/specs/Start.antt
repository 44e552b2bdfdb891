-- States in which nothing has happened yet: nobody has arrived, and nobody is linked.
use Rattle.std.specs.Prelude.{◌≡◌, ℕ, false, None}
use Rattle.strong_apa.specs.State.{State, is_ready, task_on}

-- no task is ready, and no processor has an occupant
pub record NobodyIsReady (s : State) : Type 0 where
  pub absent : (t : ℕ) → is_ready s t ≡ false
  pub idle : (p : ℕ) → task_on s p ≡ None
