-- What contracts see of a board.
use Rattle.event_history.specs.Boards.{BoardData, IsMade}
use Rattle.event_history.specs.Holdings.{queues_of}
use Rattle.event_history.specs.PassStates.{IsTurnTable}
use Rattle.event_history.specs.declared.board.Board.TheInside.{Inside}

-- the table of its turn word, and what that word is told once
abbrev pub board_data : Inside → BoardData
board_data a = record {
  id = a.table.shared.table_id;
  set = a.table.shared.key.set.value;
  queues = queues_of a.table.shared.key.senders.value.items;
  callers = a.table.shared.key.callers;
}

-- its table has one word and one slot, and what holds of every board holds
pub record IsBoard (a : Inside) : Type 0 where
  pub table : IsTurnTable a.table.shared.table_id
  pub made : IsMade (board_data a)
