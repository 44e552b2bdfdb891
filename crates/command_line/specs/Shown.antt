-- Private: what a picture shows, for the contracts of this crate's own functions.
use Rattle.std.specs.Prelude.{ℕ, zero, suc, Bool, is_some, if◌then◌else◌}
use Rattle.affinity_mask.specs.ProcSet.{empty, with_member}
use Rattle.schedule_board.specs.declared.picture.Picture.{Picture}
use Rattle.schedule_board.specs.Pictures.{task_at}
use Rattle.replay.specs.declared.sighting.Sighting.{Sighting}
use Rattle.command_line.specs.WatchText.{Snapshot, Reading}

-- the set of the numbers below n that pass a test
unfoldable pub set_below : (ℕ → Bool) → ℕ → ℕ
set_below test zero = empty
set_below test (suc n) = if test n then with_member (set_below test n) n else set_below test n

-- the snapshot that a picture shows
abbrev pub snapshot_of : Picture → Snapshot
snapshot_of picture =
    record { count = picture.count; occupied = set_below (λ p. is_some (task_at picture p)) 64 }

-- what an observer read, by the pictures that it saw
abbrev pub reading_of : Sighting → Reading
reading_of seen = record {
  first = snapshot_of seen.first;
  last = snapshot_of seen.last;
  told = snapshot_of seen.told;
}
