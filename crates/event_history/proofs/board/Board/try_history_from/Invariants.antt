use Rattle.event_history.specs.Turn.{setting}
use Rattle.event_history.proofs.board.Board.try_history_from.Given as goal

abbrev pub ghosts-history_once : goal.ghosts-history_once
ghosts-history_once a = record { setting = setting a.turn.now.key.set.value a.turn.now.key.senders.value.items }
