use Rattle.std.proofs.Common.{length}
use Rattle.schedule_picture.proofs.Histories.{followed_all, tracks_there}
use Rattle.schedule_picture.proofs.tracker.Tracker.ended.Goals as goal

pub returns : goal.returns
returns c set entries has =
    followed_all set entries c.args.self.next c.in_ok-tracks.tracks c.end.new.self has.counted
    (tracks_there set entries (length entries) c.args.self.tracks c.in_ok-tracks.tracks c.in_ok-tracks.was has.tracks) c.in_ok-end.ensures
