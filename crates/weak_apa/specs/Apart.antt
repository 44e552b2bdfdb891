-- The tasks that are linked in one state and not in another, over the same tasks.
use Rattle.std.specs.Prelude.{◌≡◌, ℕ, ◌≤◌, true, false, Some}
use Rattle.strong_apa.specs.State.{State, task_on, is_linked, priority_of}

-- t is linked to p in one state, and not linked in the other
abbrev pub IsOnlyOn : State → State → ℕ → ℕ → Type 0
IsOnlyOn one other p t = (task_on one p ≡ Some t) × (is_linked other t ≡ false)

-- nobody is linked to p in one state, or the task there is linked in the other too
abbrev pub IsNobodyOnlyOn : State → State → ℕ → Type 0
IsNobodyOnlyOn one other p = (t : ℕ) → IsOnlyOn one other p t → ⊥

-- each task that is linked in one state is linked in the other
abbrev pub IsNobodyOnlyIn : State → State → Type 0
IsNobodyOnlyIn one other = (t : ℕ) → is_linked one t ≡ true → is_linked other t ≡ false → ⊥

-- d is the most urgent task that is linked in one state and not in the other
pub record IsFirstOnlyIn (one other : State) (d : ℕ) : Type 0 where
  pub linked : is_linked one d ≡ true
  pub not_linked : is_linked other d ≡ false
  pub first : (t : ℕ) → is_linked one t ≡ true → is_linked other t ≡ false
      → priority_of one d ≤ priority_of one t
