use Rattle.std.proofs.Common.{◌≡◌, ◌++◌, get_or}
use Rattle.std.specs.List.{flat_map, range_with_len}
use Rattle.schedule_picture.specs.Group.{listed_row}
use Rattle.schedule_picture.specs.Track.{fresh_track}
use Rattle.schedule_picture.proofs.groups.write_rows.Given as goal

abbrev pub invariant-loop-k : goal.invariant-loop-k
invariant-loop-k l =
    l.text.items ≡ l.fn.text.items ++ flat_map
    (listed_row l.sheet.places.now l.sheet.window (λ t. (get_or l.rows t fresh_track).spans) l.listed) (range_with_len 0 l.k)
