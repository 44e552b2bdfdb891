-- The text of what observers read: how many observers there are, a line for each of them, and the
-- end. A snapshot says how many entries there were, and which processors were occupied after them.
use Rattle.std.specs.Prelude.{ℕ, List, ◌++◌, codes, length}
use Rattle.std.specs.List.{flat_map, enumerate_from}
use Rattle.affinity_mask.specs.Number.{canonical_number}
use Rattle.text_fields.specs.LineText.{line}
use Rattle.schedule_text.specs.ScheduleText.{set_text}

-- how many entries of a history there were, and the set of the processors that were occupied after
-- them
pub record Snapshot : Type 0 where
  pub count : ℕ
  pub occupied : ℕ

-- what an observer read: the first and the last of its reads beside the posts, and the one after it
-- was told of all entries
pub record Reading : Type 0 where
  pub first : Snapshot
  pub last : Snapshot
  pub told : Snapshot

-- a snapshot: the count, and the canonical list of the processors; '-' where none is occupied
abbrev pub snapshot_text : Snapshot → List ℕ
snapshot_text shot = canonical_number shot.count ++ codes " " ++ set_text shot.occupied

-- the line of an observer: its number, and what it read
unfoldable pub observer_line : ℕ × Reading → List ℕ
observer_line (number, reading) =
    line (codes "observer " ++ canonical_number number
    ++ codes " first " ++ snapshot_text reading.first
    ++ codes " last " ++ snapshot_text reading.last
    ++ codes " told " ++ snapshot_text reading.told)

-- the whole text: observers are numbered from 0
unfoldable pub observers_text : List Reading → List ℕ
observers_text readings =
    line (codes "observers " ++ canonical_number (length readings))
    ++ flat_map observer_line (enumerate_from 0 readings)
    ++ line (codes "end")
