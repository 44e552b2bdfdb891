-- What contracts see of where the tasks are seen, and what is kept beside it.
use Rattle.std.specs.Prelude.{◌≡◌, length}
use Rattle.strong_apa.specs.State.{task_count}
use Rattle.live_core.specs.Seen.{SeenData}
use Rattle.live_core.specs.declared.seen.SeenPlacement.TheInside.{Inside}

-- the parts that are stored
abbrev pub seen_view : Inside → SeenData
seen_view a = record { seen = a.seen.items; table = a.table; is_settled = a.is_settled }

-- each task of the table has a place in the list of those seen
abbrev pub IsSeenKept : Inside → Type 0
IsSeenKept a = length a.seen.items ≡ task_count a.table
