use Rattle.schedule_board.proofs.Boards.{turns, stays}
use Rattle.schedule_board.proofs.board.reading.look.Goals as goal

pub enter_as-requires : goal.enter_as-requires
enter_as-requires g c x = turns _ _ x x (stays x)
