-- What a valid schedule is, and where a wrong one is wrong first: a schedule is valid where each of
-- its replies passes and each of its contexts is what its history gives; else the first entry that
-- has a defect decides, or, where all pass, the first context that differs. Lines are numbered from
-- 1.
use Rattle.std.specs.Prelude.{◌≡◌, ◌≢◌, ◌⊎◌, ℕ, ◌+◌, ◌<◌, List, length, take, slice_get, Some}
use Rattle.task_set.specs.TaskSet.{SetData}
use Rattle.strong_apa.specs.declared.reply.Entry.{Entry}
use Rattle.strong_apa.specs.History.{state_at}
use Rattle.reach_certificate.specs.Defect.{IsDefect, number_of}
use Rattle.strong_apa.specs.Passing.{IsPassing}
use Rattle.reach_certificate.specs.declared.defect.Defect.{Defect}
use Rattle.strong_apa.specs.Dispatch.{contexts_of}
use Rattle.schedule_text.specs.Laws.{text_of_schedule}
use Rattle.schedule_text.specs.Schedule.{ScheduleData, IsSchedule}

-- the bytes are the text of this schedule
pub record IsTextOf (bytes : List ℕ) (schedule : ScheduleData) : Type 0 where
  pub is_schedule : IsSchedule schedule
  pub text : bytes ≡ text_of_schedule schedule

-- each reply passes, and each context is what the history gives
pub record IsValid (schedule : ScheduleData) : Type 0 where
  pub passing : IsPassing schedule.set schedule.entries
  pub contexts : schedule.contexts ≡ contexts_of schedule.set schedule.entries

-- entry n is the first whose reply does not pass, and this is its defect
pub record HasDefectAt (schedule : ScheduleData) (n : ℕ) (which : Defect) : Type 0 where
  pub entry : Entry
  pub there : slice_get schedule.entries n ≡ Some entry
  pub before : IsPassing schedule.set (take n schedule.entries)
  pub defect : IsDefect (state_at schedule.set schedule.entries n) entry which

-- all replies pass, and the context of task t is the first that is not what the history gives
pub record HasWrongContextAt (schedule : ScheduleData) (t : ℕ) : Type 0 where
  pub there : t < length schedule.contexts
  pub passing : IsPassing schedule.set schedule.entries
  pub before : take t schedule.contexts ≡ take t (contexts_of schedule.set schedule.entries)
  pub differs : slice_get schedule.contexts t
      ≢ slice_get (contexts_of schedule.set schedule.entries) t

-- the line of entry n: the header, the processors, the tasks and the number of entries stand before
-- the entries
abbrev pub entry_line_number : ScheduleData → ℕ → ℕ
entry_line_number schedule n = length schedule.set.tasks + 4 + n

-- the line of the context of task t: the entries and the number of contexts stand before it, too
abbrev pub context_line_number : ScheduleData → ℕ → ℕ
context_line_number schedule t = length schedule.set.tasks + 5 + length schedule.entries + t

-- the number of the defect of a context, after those of an entry
abbrev pub context_defect : ℕ
context_defect = 5

-- an entry has a defect, in this line and of this number
pub record HasBadEntry (schedule : ScheduleData) (number defect : ℕ) : Type 0 where
  pub n : ℕ
  pub which : Defect
  pub first : HasDefectAt schedule n which
  pub place : number ≡ entry_line_number schedule n
  pub numbered : defect ≡ number_of which

-- a context differs, in this line
pub record HasBadContext (schedule : ScheduleData) (number defect : ℕ) : Type 0 where
  pub t : ℕ
  pub first : HasWrongContextAt schedule t
  pub place : number ≡ context_line_number schedule t
  pub numbered : defect ≡ context_defect

-- the schedule is wrong, first in this line, with a defect of this number
abbrev pub IsInvalid : ScheduleData → ℕ → ℕ → Type 0
IsInvalid schedule number defect =
    HasBadEntry schedule number defect ⊎ HasBadContext schedule number defect

-- the bytes are the text of a valid schedule
abbrev pub IsValidText : List ℕ → Type 0
IsValidText bytes = (schedule : ScheduleData) × IsTextOf bytes schedule × IsValid schedule

-- the bytes are the text of a schedule that is wrong, first in this line, with a defect of this
-- number
pub record IsInvalidText (bytes : List ℕ) (number defect : ℕ) : Type 0 where
  pub schedule : ScheduleData
  pub is_text : IsTextOf bytes schedule
  pub invalid : IsInvalid schedule number defect

-- the schedule of a history in a version of the format, with the contexts that it gives
abbrev pub schedule_of : ℕ → SetData → List Entry → ScheduleData
schedule_of version set history =
    record { version = version; set = set; entries = history; contexts = contexts_of set history }
