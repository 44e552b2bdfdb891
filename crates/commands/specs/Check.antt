-- What a check of a schedule says. The bytes read are the text of one schedule; where that is
-- valid, the bytes written are a line with the number of its entries; else it is refused at the
-- first entry that has a defect, or, where all replies pass, at the first context that differs. Any
-- other text is refused at its first faulty line.
use Rattle.std.specs.Prelude.{◌≡◌, ◌⊎◌, ℕ, List, ◌++◌, length, codes}
use Rattle.affinity_mask.specs.Number.{canonical_number}
use Rattle.strong_apa.specs.History.{IsBestThroughout}
use Rattle.strong_apa.specs.Improving.{HasNoImprovingChainThroughout}
use Rattle.text_fields.specs.LineText.{line}
use Rattle.schedule_text.specs.Schedule.{ScheduleData}
use Rattle.commands.specs.Refusal.{IsAnsweredInput, IsAnsweredInvalid, RefusesSchedule}
use Rattle.commands.specs.declared.status.Status.{Status}
use Rattle.commands.specs.Valid.{IsTextOf, IsValid, IsInvalidText}

-- the line that reports how many entries a valid schedule has
abbrev pub valid_text : ℕ → List ℕ
valid_text count = line (codes "valid " ++ canonical_number count)

-- from the bytes of a valid schedule to the bytes written: after every entry the linked tasks are
-- the best placeable set of the ready ones, and no chain of shifts would bring a waiting task in
-- without displacing a more urgent one, whoever made the schedule
pub record IsCheckOf (read put : List ℕ) : Type 0 where
  pub schedule : ScheduleData
  pub is_text : IsTextOf read schedule
  pub valid : IsValid schedule
  pub best : IsBestThroughout schedule.set schedule.entries
  pub no_improving_chain : HasNoImprovingChainThroughout schedule.set schedule.entries
  pub reported : put ≡ valid_text (length schedule.entries)

-- the bytes that a check refuses, each with its answer
abbrev pub RefusesCheck : List ℕ → Status → Type 0
RefusesCheck bytes status =
    IsAnsweredInput (RefusesSchedule bytes) status ⊎ IsAnsweredInvalid (IsInvalidText bytes) status
