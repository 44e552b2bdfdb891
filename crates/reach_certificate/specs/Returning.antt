-- A task that leaves and comes back. Private: contracts of this crate's own functions.
use Rattle.std.specs.Prelude.{◌≡◌, ℕ, true, Option, Some, None}
use Rattle.strong_apa.specs.declared.reply.Came.{Came}
use Rattle.strong_apa.specs.declared.reply.Gone.{Gone}
use Rattle.strong_apa.specs.declared.reply.Moved.{Moved}
use Rattle.strong_apa.specs.State.{State, is_linked, IsWaiting, state_with_mask, state_with_offline}
use Rattle.strong_apa.specs.State.{state_after_leaving}
use Rattle.strong_apa.specs.History.{state_after_left}
use Rattle.strong_apa.specs.Passing.{CamePasses, LeavingPasses}

-- t is where the reply says that it leaves: it waits, or is linked
abbrev pub IsLeaving : State → ℕ → Option Gone → Type 0
IsLeaving s t None = IsWaiting s t
IsLeaving s t (Some gone) = is_linked s t ≡ true

-- it leaves, and what it comes to once its mask has changed passes
abbrev pub ReturnsRightly : State → ℕ → ℕ → Option Gone → Came → Type 0
ReturnsRightly s t mask gone came =
    LeavingPasses s t gone × CamePasses (state_with_mask (state_after_left s t gone) t mask) t came

-- what the task of p comes to once p is off line passes
abbrev pub MovesRightly : State → ℕ → Moved → Type 0
MovesRightly s p moved =
    CamePasses (state_with_offline (state_after_leaving s moved.task) p) moved.task moved.came
