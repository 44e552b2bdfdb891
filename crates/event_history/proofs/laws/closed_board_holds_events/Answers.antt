use Rattle.event_history.proofs.Merging.{closed_board_holds_events}
use Rattle.event_history.proofs.laws.closed_board_holds_events.Goals as goal

pub returns : goal.returns
returns c = closed_board_holds_events
