-- What contracts see of the fields of a track.
use Rattle.schedule_picture.specs.Track.{TrackData}
use Rattle.schedule_picture.specs.declared.track.Track.TheInside.{Inside}

abbrev pub track_view : Inside → TrackData
track_view a = record { current = a.current; since = a.since; spans = a.spans.items }
