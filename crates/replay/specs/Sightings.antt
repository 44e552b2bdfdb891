-- What observers of a replay saw of its history.
use Rattle.std.specs.Prelude.{◌≤◌, List, take}
use Rattle.task_set.specs.TaskSet.{SetData}
use Rattle.strong_apa.specs.declared.reply.Entry.{Entry}
use Rattle.schedule_board.specs.Pictures.{IsPictureOf}
use Rattle.replay.specs.declared.sighting.Sighting.{Sighting}

-- an observer of a history saw the links after some of its entries, then after no fewer, and in the
-- end after all of them
pub record IsSightingOf (set : SetData) (history : List Entry) (s : Sighting) : Type 0 where
  pub first : IsPictureOf set.processors (take s.first.count history) s.first
  pub last : IsPictureOf set.processors (take s.last.count history) s.last
  pub told : IsPictureOf set.processors history s.told
  pub first_to_last : s.first.count ≤ s.last.count
  pub last_to_told : s.last.count ≤ s.told.count
