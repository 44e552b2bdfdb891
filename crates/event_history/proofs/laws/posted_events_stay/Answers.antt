use Rattle.event_history.proofs.Merging.{posted_events_stay}
use Rattle.event_history.proofs.laws.posted_events_stay.Goals as goal

pub returns : goal.returns
returns c = posted_events_stay
