-- Streams of events: what a pass has posted of its stream.
use Rattle.std.specs.Prelude.{◌≡◌, ℕ, ◌<◌, ◌⊎◌, Bool, true, false, List, [], ◌∷◌, ◌++◌, length}
use Rattle.task_set.specs.declared.event.Event.{Event}
use Rattle.task_set.specs.Event.{IsOfSystem}
use Rattle.trace_reader.specs.declared.posted.Posted.{Posted}
use Rattle.event_history.specs.Boards.{BoardData, PassData, AreEyesOf}
use Rattle.event_history.specs.Merging.{AreEventsAt}
use Rattle.replay.specs.Merge.{events_of_stream}

-- each event is of a task of the board's set, and on the stream of one of its callers
pub record IsForBoard (board : BoardData) (posted : Posted) : Type 0 where
  pub known : IsOfSystem board.set.processors (length board.set.tasks) posted.event
  pub stream : posted.stream < board.callers

-- the pass is that of caller n of the board, with an eye for each of its queues
pub record IsPassAt (board : BoardData) (n : ℕ) (pass : PassData) : Type 0 where
  pub of_board : pass.board ≡ board.id
  pub caller : pass.caller ≡ n
  pub eyes : AreEyesOf board.queues pass.eyes

-- it posted all events of stream n, where it says so
pub record IsStreamedAt (board : BoardData) (events : List Posted) (whole : Bool) (n : ℕ)
    (pass : PassData) : Type 0 where
  pub own : IsPassAt board n pass
  pub posted : whole ≡ true → AreEventsAt pass.seen pass.mine (events_of_stream n events)

-- a pass that has posted nothing and has not seen the close
pub record IsUnused (pass : PassData) : Type 0 where
  pub mine : pass.mine ≡ []
  pub close : pass.saw_close ≡ false

-- the pass posted these events after those that it had posted
abbrev pub Adds : PassData → List Event → PassData → Type 0
Adds old events new = (done : List Event) → AreEventsAt old.seen old.mine done
    → AreEventsAt new.seen new.mine (done ++ events)

-- one of the passes saw the close
abbrev pub SomeSawClose : List PassData → Type 0
SomeSawClose [] = ⊥
SomeSawClose (pass ∷ rest) = (pass.saw_close ≡ true) ⊎ SomeSawClose rest
