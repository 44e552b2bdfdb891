use Rattle.std.proofs.Common.{◌≡◌, ◌++◌, get_or}
use Rattle.std.specs.List.{flat_map, range_with_len}
use Rattle.schedule_picture.specs.Group.{lane_text}
use Rattle.schedule_picture.specs.Track.{fresh_track}
use Rattle.schedule_picture.proofs.groups.write_lanes.Given as goal

abbrev pub invariant-loop-p : goal.invariant-loop-p
invariant-loop-p l =
    l.text.items ≡ l.fn.text.items ++ flat_map
    (λ p. lane_text l.sheet.places.now l.sheet.window l.sheet.set.now p (get_or l.absences p fresh_track).spans
    (get_or l.lanes p fresh_track).spans) (range_with_len 0 l.p)
