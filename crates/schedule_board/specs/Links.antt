-- Who is on which processor, as a picture has it.
use Rattle.std.specs.Prelude.{◌≡◌, ℕ, ◌<◌, length, get_or, None}
use Rattle.strong_apa.specs.State.{State, task_on}
use Rattle.schedule_board.specs.declared.occupants.Occupants.{Occupants}

-- these are the links of the state, in 64 places: it has as many processors, and on each the task
-- that is linked to it
pub record ShowsLinks (s : State) (shown : Occupants) : Type 0 where
  pub processors : shown.processors ≡ s.processors
  pub places : length shown.on ≡ 64
  pub each : (p : ℕ) → p < 64 → get_or shown.on p None ≡ task_on s p
