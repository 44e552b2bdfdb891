-- Laws of the schedule text. They rest on nothing but the definitions that they name.
use Rattle.std.specs.Prelude.{◌≡◌, ℕ, ◌⊎◌, List}
use Rattle.schedule_text.specs.ScheduleText.{schedule_text, spaced}
use Rattle.schedule_text.specs.Fields.{spaced_fields_of}
use Rattle.schedule_text.specs.Schedule.{ScheduleData, IsSchedule}
use Rattle.schedule_text.specs.ScheduleFault.{IsScheduleRefused}
use Rattle.schedule_text.specs.declared.fault.TextKind.{TextKind}

-- the text of a schedule
abbrev pub text_of_schedule : ScheduleData → List ℕ
text_of_schedule schedule =
    schedule_text schedule.version schedule.set schedule.entries schedule.contexts

-- two schedules with one text are equal
abbrev pub TextHasOneSchedule : Type 0
TextHasOneSchedule =
    (one other : ScheduleData) → IsSchedule one → IsSchedule other
    → text_of_schedule one ≡ text_of_schedule other → one ≡ other

-- a text is refused with at most one line and one kind
abbrev pub TextHasOneFault : Type 0
TextHasOneFault =
    (bytes : List ℕ) (line other : ℕ) (kind another : TextKind)
    → IsScheduleRefused bytes line kind → IsScheduleRefused bytes other another
    → (line ≡ other) × (kind ≡ another)

-- the text of no schedule is refused
abbrev pub ScheduleHasNoFault : Type 0
ScheduleHasNoFault =
    (schedule : ScheduleData) (line : ℕ) (kind : TextKind) → IsSchedule schedule
    → IsScheduleRefused (text_of_schedule schedule) line kind → ⊥

-- each text is that of a schedule or is refused
abbrev pub AcceptedOrRefused : Type 0
AcceptedOrRefused =
    (bytes : List ℕ)
    → ((schedule : ScheduleData) × IsSchedule schedule × (bytes ≡ text_of_schedule schedule))
    ⊎ ((line : ℕ) × (kind : TextKind) × IsScheduleRefused bytes line kind)

-- a line is its fields with one space between them
abbrev pub LineIsItsFields : Type 0
LineIsItsFields = (text : List ℕ) → text ≡ spaced (spaced_fields_of text)
