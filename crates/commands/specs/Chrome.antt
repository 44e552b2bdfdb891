-- What a trace of a schedule in Chrome's format is. Bytes that are not the text of a valid schedule
-- are refused as a check refuses them.
use Rattle.std.specs.Prelude.{ℕ, List}
use Rattle.schedule_picture.specs.Chrome.{IsChrome}
use Rattle.schedule_text.specs.Schedule.{ScheduleData}
use Rattle.commands.specs.Valid.{IsTextOf, IsValid}

-- from the bytes of a valid schedule to those of a trace that has its stays on processors, each
-- once, and begins at this moment
pub record IsChromeOf (start : ℕ) (read put : List ℕ) : Type 0 where
  pub schedule : ScheduleData
  pub is_text : IsTextOf read schedule
  pub valid : IsValid schedule
  pub chrome : IsChrome start schedule.set schedule.entries put
