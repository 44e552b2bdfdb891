-- What a drawing of a schedule is. Bytes that are not the text of a valid schedule are refused as a
-- check refuses them.
use Rattle.std.specs.Prelude.{ℕ, List}
use Rattle.schedule_picture.specs.Picture.{IsPicture}
use Rattle.schedule_picture.specs.declared.axis.Axis.{Axis}
use Rattle.schedule_picture.specs.declared.window.Window.{Window}
use Rattle.schedule_text.specs.Schedule.{ScheduleData}
use Rattle.commands.specs.Valid.{IsTextOf, IsValid}

-- from the bytes of a valid schedule to those of a picture of this window of it, over units of time
-- or by entries
pub record IsDrawingOf (axis : Axis) (window : Window) (read put : List ℕ) : Type 0 where
  pub schedule : ScheduleData
  pub is_text : IsTextOf read schedule
  pub valid : IsValid schedule
  pub picture : IsPicture axis schedule.set schedule.entries window put
