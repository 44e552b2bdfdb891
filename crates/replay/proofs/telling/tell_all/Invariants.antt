use Rattle.std.proofs.Common.{◌≡◌, ◌≤◌, length, All}
use Rattle.std.specs.Vec.{vec_capacity}
use Rattle.schedule_board.specs.Boards.{board_of, published}
use Rattle.replay.specs.Watches.{IsObservedOf, IsToldOf}
use Rattle.replay.proofs.telling.tell_all.Given as goal

abbrev pub invariant-loop-i : goal.invariant-loop-i
invariant-loop-i g l = record {
  publisher : l.publisher ≡ l.initial.publisher;
  count : length l.sightings.items ≡ l.i;
  same : length l.observed.items ≡ length l.initial.observed.items;
  room : length l.initial.observed.items ≤ vec_capacity l.sightings;
  observed : All (IsObservedOf (board_of l.initial.publisher)) l.observed.items;
  each : All (IsToldOf (board_of l.initial.publisher).processors (published l.initial.publisher)) l.sightings.items;
}
