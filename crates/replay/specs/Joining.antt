-- What the threads of a watched replay begin with beside those of every replay, and what they
-- leave.
use Rattle.std.specs.Prelude.{◌≡◌, ◌≤◌, ℕ, true, List, [], length, All}
use Rattle.strong_apa.specs.declared.reply.Entry.{Entry}
use Rattle.schedule_board.specs.Boards.{board_of, published, IsNewObserver}
use Rattle.schedule_board.specs.Boards.{PictureBoardData as WatchedBoard}
use Rattle.event_history.specs.Boards.{PassData}
use Rattle.replay.specs.Threading.{AreThreaded}
use Rattle.replay.specs.Passes.{FirstSaw, FirstSawClose, FirstSawJust}
use Rattle.replay.specs.Watches.{IsObservedOf, IsToldOf}
use Rattle.replay.specs.declared.shared.Shared.{Shared}
use Rattle.replay.specs.declared.sighting.Sighting.{Sighting}
use Rattle.replay.specs.declared.watched_threads.Joined.{Joined}
use Rattle.replay.specs.declared.watched_threads.Told.{Told}
use Rattle.replay.specs.declared.watched_threads.Watching.{Watching}

-- nothing is published; there are at most eight observers, new ones of the publisher's board, with
-- a flag for each
pub record CanWatch {K : Type 0} (watching : Watching K) : Type 0 where
  pub new : published watching.publisher ≡ []
  pub few : length watching.observers.items ≤ 8
  pub flags : length watching.observers.items ≤ length watching.refused.now
  pub seers : All (IsNewObserver (board_of watching.publisher)) watching.observers.items

-- the threads of the replay are joined, and so are so many observers of the publisher's board; the
-- pass of caller 0 closed the core, and has seen all that is published
pub record AreJoined {R G K : Type 0} (shared : Shared R G) (of : WatchedBoard) (observers : ℕ)
    (done : Joined K) : Type 0 where
  pub threads : AreThreaded shared.board.now shared.events.now shared.queues.now shared.slots.now
      done.threaded
  pub first_saw : FirstSaw (published done.publisher) done.threaded.passes.items
  pub first_closed : FirstSawClose done.threaded.passes.items
  pub on_board : board_of done.publisher ≡ of
  pub each_observer : length done.observed.items ≡ observers
  pub seen : All (IsObservedOf of) done.observed.items

-- what so many observers saw, each of whom was told of all that the pass of caller 0 has seen, in
-- pictures of m processors
pub record WereTold (m observers : ℕ) (passes : List PassData)
    (sightings : List Sighting) : Type 0 where
  pub each_observer : length sightings ≡ observers
  pub entries : List Entry
  pub all_seen : FirstSawJust entries passes
  pub told : All (IsToldOf m entries) sightings

-- the threads of the replay are joined, and the pass of caller 0 closed the core; where all is
-- done, so many observers were told of the whole history
pub record AreTold {R G : Type 0} (shared : Shared R G) (m observers : ℕ)
    (done : Told) : Type 0 where
  pub threads : AreThreaded shared.board.now shared.events.now shared.queues.now shared.slots.now
      done.threaded
  pub first_closed : FirstSawClose done.threaded.passes.items
  pub told : done.threaded.whole ≡ true
      → WereTold m observers done.threaded.passes.items done.sightings.items
