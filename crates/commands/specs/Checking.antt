-- One step of a check: the words of the contracts of private functions. The public one says by the
-- definitions of a valid and of a wrong schedule what was found.
use Rattle.strong_apa.specs.Dispatch.{contexts_of}
use Rattle.std.specs.Prelude.{◌≡◌, ℕ, take}
use Rattle.strong_apa.specs.History.{state_at}
use Rattle.reach_certificate.specs.Checker.{CheckerData, IsChecker}
use Rattle.strong_apa.specs.Passing.{IsPassing}
use Rattle.schedule_text.specs.Schedule.{ScheduleData}
use Rattle.commands.specs.Valid.{HasBadEntry, HasBadContext, IsInvalid}
use Rattle.commands.specs.declared.status.Status.{Status}
use Rattle.commands.specs.declared.status.Status.TheVariants.{Invalid}

-- a checker has accepted the first n entries of a schedule
pub record HasFollowed (schedule : ScheduleData) (n : ℕ) (checker : CheckerData) : Type 0 where
  pub passing : IsPassing schedule.set (take n schedule.entries)
  pub links : checker.links ≡ state_at schedule.set schedule.entries n
  pub contexts : checker.contexts ≡ contexts_of schedule.set (take n schedule.entries)
  pub valid : IsChecker checker

-- the answer for the first entry that has a defect
abbrev pub IsBadEntryStatus : ScheduleData → Status → Type 0
IsBadEntryStatus schedule status = (number : ℕ) × (defect : ℕ) × (status ≡ Invalid number defect)
    × HasBadEntry schedule number defect

-- the answer for the first context that differs
abbrev pub IsBadContextStatus : ScheduleData → Status → Type 0
IsBadContextStatus schedule status = (number : ℕ) × (defect : ℕ) × (status ≡ Invalid number defect)
    × HasBadContext schedule number defect

-- the answer for a schedule that is wrong
abbrev pub IsInvalidStatus : ScheduleData → Status → Type 0
IsInvalidStatus schedule status = (number : ℕ) × (defect : ℕ) × (status ≡ Invalid number defect)
    × IsInvalid schedule number defect
