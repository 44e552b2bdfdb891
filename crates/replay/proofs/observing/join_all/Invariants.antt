use Rattle.std.proofs.Common.{◌≡◌, ◌+◌, ◌≤◌, length, All}
use Rattle.std.specs.Vec.{vec_capacity}
use Rattle.schedule_board.specs.Boards.{PictureBoardData}
use Rattle.replay.specs.Watches.{IsObservedOf, IsWatcherOf}
use Rattle.replay.proofs.observing.join_all.Given as goal

abbrev pub invariant-loop-watcher : goal.invariant-loop-watcher
invariant-loop-watcher g l = record {
  count : length l.watchers.items + length l.observed.items ≡ length l.initial.watchers.items;
  room : length l.initial.watchers.items ≤ vec_capacity l.observed;
  each : (of : PictureBoardData) → All (IsWatcherOf of) l.initial.watchers.items → All (IsWatcherOf of) l.watchers.items
      × All (IsObservedOf of) l.observed.items;
}

abbrev pub decreases-loop-watcher : goal.decreases-loop-watcher
decreases-loop-watcher g l = length l.watchers.items
