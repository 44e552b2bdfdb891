-- The laws about valid schedules.
use Rattle.std.specs.Prelude.{◌≡◌, ℕ, ◌<◌, ◌≤◌, List, length, All}
use Rattle.task_set.specs.TaskSet.{SetData}
use Rattle.task_set.specs.Event.{HasUnits, IsOfVersion}
use Rattle.strong_apa.specs.declared.reply.Entry.{Entry}
use Rattle.strong_apa.specs.History.{IsLegal, IsBestThroughout}
use Rattle.strong_apa.specs.Improving.{HasNoImprovingChainThroughout}
use Rattle.text_fields.specs.Version.{IsVersion}
use Rattle.schedule_text.specs.Schedule.{ScheduleData, IsSchedule, IsScheduleSet}
use Rattle.commands.specs.Valid.{IsValid, IsInvalid, schedule_of}

-- no schedule is valid and wrong
abbrev pub ValidIsNotInvalid : Type 0
ValidIsNotInvalid = (schedule : ScheduleData) → IsSchedule schedule → (number defect : ℕ)
    → IsValid schedule → IsInvalid schedule number defect → ⊥

-- a schedule is wrong in one line, with one defect
abbrev pub InvalidIsUnique : Type 0
InvalidIsUnique = (schedule : ScheduleData) → IsSchedule schedule
    → (number other defect another : ℕ) → IsInvalid schedule number defect
    → IsInvalid schedule other another → (number ≡ other) × (defect ≡ another)

-- after every entry of a valid schedule, and before the first, the linked tasks are the best
-- placeable set of the ready ones
abbrev pub ValidIsBest : Type 0
ValidIsBest = (schedule : ScheduleData) → IsSchedule schedule → IsValid schedule
    → IsBestThroughout schedule.set schedule.entries

-- after every entry of a valid schedule, and before the first, no chain of shifts would bring a
-- waiting task in without displacing a more urgent one
abbrev pub ValidHasNoImprovingChain : Type 0
ValidHasNoImprovingChain = (schedule : ScheduleData) → IsSchedule schedule → IsValid schedule
    → HasNoImprovingChainThroughout schedule.set schedule.entries

-- the stream of the entry is below 16, a tick has units of the format, and its version has such an
-- event
abbrev pub IsPostedEntry : ℕ → Entry → Type 0
IsPostedEntry version entry =
    (entry.caller < 16) × HasUnits entry.event × IsOfVersion version entry.event

-- the history has so few entries that a schedule can have them, each of them can be written in this
-- version of the format, and it is legal
pub record IsWritableHistory (version : ℕ) (set : SetData) (history : List Entry) : Type 0 where
  pub known : IsVersion version
  pub tasks : IsScheduleSet set
  pub few : length history ≤ 20000
  pub posted : All (IsPostedEntry version) history
  pub legal : IsLegal set history

-- the schedule of such a history is a valid one
abbrev pub LegalIsValid : Type 0
LegalIsValid = (version : ℕ) (set : SetData) (history : List Entry)
    → IsWritableHistory version set history → IsSchedule (schedule_of version set history)
    × IsValid (schedule_of version set history)
