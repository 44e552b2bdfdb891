use Rattle.event_history.proofs.Merging.{posted_event_is_last}
use Rattle.event_history.proofs.laws.posted_event_is_last.Goals as goal

pub returns : goal.returns
returns c = posted_event_is_last
