use Rattle.std.proofs.Common.{◌≡◌, ◌+◌, ◌≤◌, length, All}
use Rattle.std.specs.Vec.{vec_capacity}
use Rattle.schedule_board.specs.declared.board.Observer.{Observer}
use Rattle.schedule_board.specs.Boards.{PictureBoardData, board_at}
use Rattle.replay.specs.Watches.{IsWatcherOf}
use Rattle.replay.proofs.observing.start_all.Given as goal

abbrev pub invariant-loop-observer : goal.invariant-loop-observer
invariant-loop-observer g l = record {
  count : length l.observers.items + length l.watchers.items ≡ length l.initial.observers.items;
  room : length l.initial.observers.items ≤ vec_capacity l.watchers;
  each : (of : PictureBoardData) → All (λ (o : Observer). board_at o ≡ of) l.initial.observers.items
      → All (λ (o : Observer). board_at o ≡ of) l.observers.items × All (IsWatcherOf of) l.watchers.items;
}

abbrev pub decreases-loop-observer : goal.decreases-loop-observer
decreases-loop-observer g l = length l.observers.items
