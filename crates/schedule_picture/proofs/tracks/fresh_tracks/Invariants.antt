use Rattle.std.proofs.Common.{◌≡◌, replicate}
use Rattle.schedule_picture.specs.Track.{fresh_track}
use Rattle.schedule_picture.proofs.tracks.fresh_tracks.Given as goal

abbrev pub invariant-loop-x : goal.invariant-loop-x
invariant-loop-x l = l.tracks.items ≡ replicate l._x fresh_track
