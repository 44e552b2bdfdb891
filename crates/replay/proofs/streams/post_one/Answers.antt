use Rattle.event_history.proofs.Merging.{posted_event_is_last}
use Rattle.replay.proofs.streams.post_one.Goals as goal

pub returns-clause-adds : goal.returns-clause-adds
returns-clause-adds g c = λ done at. posted_event_is_last _ _ _ _ _ done c.in_ok-unread.ensures.posted.posted at
