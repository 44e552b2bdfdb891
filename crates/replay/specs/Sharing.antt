-- What the threads of a replay share.
use Rattle.std.specs.Prelude.{◌≡◌, ◌≤◌, length, All}
use Rattle.event_history.specs.Boards.{AreFor}
use Rattle.replay.specs.Streams.{IsForBoard}
use Rattle.replay.specs.declared.shared.Shared.{Shared}

-- the queues are those of the board, with a flag for each of them, and were made for the tasks of
-- the set of the slots; the events are for the board
pub record IsShared {R G : Type 0} (shared : Shared R G) : Type 0 where
  pub own : shared.queues.now ≡ shared.board.now.queues
  pub tasks : AreFor shared.slots.now.set shared.queues.now
  pub events : All (IsForBoard shared.board.now) shared.events.now
  pub flags : length shared.queues.now ≤ length shared.refused.now
