-- What waiting for the turn leaves.
use Rattle.std.specs.Prelude.{◌≡◌}
use Rattle.event_history.specs.Boards.{PassData, Grown}

-- a pass that waited knows no more of the history
pub record Waited (old new : PassData) : Type 0 where
  pub grown : Grown old new
  pub seen : new.seen ≡ old.seen
  pub mine : new.mine ≡ old.mine
  pub close : new.saw_close ≡ old.saw_close
