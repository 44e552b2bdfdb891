use Rattle.std.proofs.Common.{◌≡◌, ◌+◌, ◌≤◌, [], length, vec_len, map}
use Rattle.std.specs.Vec.{vec_capacity}
use Rattle.order_queues.specs.Ends.{new_eye}
use Rattle.event_history.specs.Boards.{AreNewPassesFrom}
use Rattle.event_history.specs.Gathering.{AreRows}
use Rattle.event_history.specs.PassStates.{Agrees}
use Rattle.event_history.specs.Turn.{fresh}
use Rattle.event_history.proofs.board.Board.new.Given as goal

abbrev pub invariant-loop-caller : goal.invariant-loop-caller
invariant-loop-caller l = record {
  at_table : l.first.seat.table_id ≡ l.table.shared.table_id;
  first : l.first.seat.me ≡ (fresh 0 l.caller, []);
  eyes : l.first.eyes ≡ map new_eye l.queues;
  agrees : Agrees l.first;
  count : vec_len l.passes + 1 ≡ l.caller;
  rows : length l.rows.items + l.caller ≡ l.callers;
  same : AreRows (map new_eye l.queues) l.rows.items;
  room : l.callers ≤ vec_capacity l.passes;
  made : AreNewPassesFrom l.table.shared.table_id (map new_eye l.queues) 1 l.passes.items;
}
