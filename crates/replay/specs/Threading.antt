-- What the threads of a replay begin with, and what they leave.
use Rattle.std.specs.Prelude.{◌≡◌, ◌≤◌, ℕ, List, length, All}
use Rattle.order_queues.specs.Ends.{QueueData}
use Rattle.context_slots.specs.Hands.{SlotsData}
use Rattle.processor_seat.specs.Stepping.{ProcessorData}
use Rattle.trace_reader.specs.declared.posted.Posted.{Posted}
use Rattle.event_history.specs.Boards.{BoardData, PassData, IsMade, AreAllPasses, AreFor}
use Rattle.replay.specs.Places.{AllFrom}
use Rattle.replay.specs.Seats.{AreIdle, HasStoppedAt}
use Rattle.replay.specs.Sharing.{IsShared}
use Rattle.replay.specs.Streams.{IsForBoard, IsStreamedAt, IsUnused, SomeSawClose}
use Rattle.replay.specs.declared.on_threads.Threaded.{Threaded}
use Rattle.replay.specs.declared.shared.Shared.{Shared}

-- over what is shared, all passes of the board, unused, and an idle processor for each of its
-- queues
pub record CanRun {R G : Type 0} (shared : Shared R G) (passes : List PassData)
    (processors : List ProcessorData) : Type 0 where
  pub ok : IsShared shared
  pub made : IsMade shared.board.now
  pub all : AreAllPasses shared.board.now passes
  pub unused : All IsUnused passes
  pub idle : AreIdle shared.queues.now shared.slots.now processors

-- the same, by what is shared, with so many flags
pub record CanStart (board : BoardData) (queues : List QueueData) (slots : SlotsData)
    (events : List Posted) (raised : ℕ) (passes : List PassData)
    (processors : List ProcessorData) : Type 0 where
  pub made : IsMade board
  pub all : AreAllPasses board passes
  pub unused : All IsUnused passes
  pub own : queues ≡ board.queues
  pub tasks : AreFor slots.set queues
  pub posted : All (IsForBoard board) events
  pub flags : length queues ≤ raised
  pub idle : AreIdle queues slots processors

-- the passes posted their streams, one of them saw the close, and each processor has stopped
pub record AreThreaded (board : BoardData) (events : List Posted) (queues : List QueueData)
    (slots : SlotsData) (done : Threaded) : Type 0 where
  pub callers : length done.passes.items ≡ board.callers
  pub streamed : AllFrom (IsStreamedAt board events done.whole) 0 done.passes.items
  pub closed : SomeSawClose done.passes.items
  pub one_each : length done.processors.items ≡ length queues
  pub stopped : AllFrom (HasStoppedAt queues slots) 0 done.processors.items
