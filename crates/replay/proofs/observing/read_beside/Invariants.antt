use Rattle.std.proofs.Common.{◌≡◌}
use mathlib.Core.List.{IsPrefix}
use Rattle.schedule_board.specs.Boards.{board_at, seen}
use Rattle.schedule_board.specs.Pictures.{IsPictureOf}
use Rattle.replay.proofs.observing.read_beside.Given as goal

abbrev pub invariant-loop : goal.invariant-loop
invariant-loop g l = record {
  board : board_at l.observer ≡ board_at l.initial.observer;
  first : IsPictureOf (board_at l.initial.observer).processors (seen l.initial.observer) l.first;
  last : IsPictureOf (board_at l.initial.observer).processors (seen l.observer) l.last;
  later : IsPrefix (seen l.initial.observer) (seen l.observer);
}
