-- The answer to the text of a schedule: it is the one that the schedule has, since a text has one schedule.
use Rattle.std.proofs.Common.{◌≡◌, ℕ, ◌⊎◌, List, length, Result, Ok, Err, IfOk, IfErr, Vec, sym, ap, ◌∙◌, subst, inl, inr}
use Rattle.std.specs.declared.alloc.Global.{Global}
use Rattle.schedule_text.specs.Laws.{text_of_schedule}
use Rattle.schedule_text.specs.Schedule.{ScheduleData, IsSchedule}
use Rattle.schedule_text.specs.ScheduleFault.{IsScheduleRefused}
use Rattle.schedule_text.specs.declared.fault.TextFault.{TextFault}
use Rattle.schedule_text.specs.declared.fault.TextKind.{TextKind}
use Rattle.schedule_text.specs.declared.fault.TextKind.TheVariants as text_kind
use Rattle.schedule_picture.specs.Chrome.{IsChrome}
use Rattle.schedule_picture.specs.Picture.{IsPicture}
use Rattle.schedule_picture.specs.declared.axis.Axis.{Axis}
use Rattle.schedule_picture.specs.declared.window.Window.{Window}
use Rattle.commands.specs.Answers.{Answers}
use Rattle.commands.specs.Status.{status_of_text_fault}
use Rattle.commands.specs.declared.status.Status.{Status}
use Rattle.commands.specs.declared.status.Status.TheVariants.{Invalid, OutOfMemory}
use Rattle.commands.proofs.Refusals.{refusal_of_text_fault, memory_of_text_fault, status_of_text_refused}
use Rattle.commands.specs.Valid.{IsValid, IsInvalid, IsValidText}
use Rattle.commands.proofs.OneVerdict.{invalid_once, valid_is_not_invalid, valid_is_best, valid_has_no_improving_chain}
use Rattle.commands.specs.Check.{IsCheckOf, RefusesCheck, valid_text}
use Rattle.commands.specs.Checking.{IsInvalidStatus}
use Rattle.commands.specs.Chrome.{IsChromeOf}
use Rattle.commands.specs.Draw.{IsDrawingOf}

-- ---- a schedule that is judged
-- a valid schedule is not answered as wrong
memory_of_valid : (schedule : ScheduleData) (status : Status) → IsSchedule schedule → IsValid schedule → IsInvalidStatus schedule status
    ⊎ (status ≡ OutOfMemory) → status ≡ OutOfMemory
memory_of_valid schedule status ok valid (inl bad) = absurd (valid_is_not_invalid schedule ok bad.0 bad.1 valid bad.3)
memory_of_valid schedule status ok valid (inr memory) = memory

-- a wrong one is answered in its line, with its defect
status_of_invalid : (schedule : ScheduleData) (status : Status) (number defect : ℕ) → IsSchedule schedule → IsInvalid schedule number defect
    → IsInvalidStatus schedule status ⊎ (status ≡ OutOfMemory) → (status ≡ Invalid number defect) ⊎ (status ≡ OutOfMemory)
status_of_invalid schedule status number defect ok invalid (inl bad) =
    let same = invalid_once schedule ok bad.0 number bad.1 defect bad.3 invalid in
    inl (bad.2 ∙ ap (λ (n : ℕ). Invalid n bad.1) same.0 ∙ ap (λ (d : ℕ). Invalid number d) same.1)
status_of_invalid schedule status number defect ok invalid (inr memory) = inr memory

-- ---- a text that is no schedule's
text_refused : (bytes : List ℕ) (fault : TextFault) → (fault.kind ≡ text_kind.OutOfMemory) ⊎ IsScheduleRefused bytes fault.line fault.kind
    → RefusesCheck bytes (status_of_text_fault fault) ⊎ (status_of_text_fault fault ≡ OutOfMemory)
text_refused bytes fault why = elim (refusal_of_text_fault bytes fault why) [
  | inl input ↦ inl (inl input)
  | inr memory ↦ inr memory
]

-- the bytes are no schedule's text, or memory was refused
abbrev IsUnread : List ℕ → TextFault → Type 0
IsUnread bytes fault =
    (schedule : ScheduleData) → IsSchedule schedule → bytes ≡ text_of_schedule schedule → fault.kind ≡ text_kind.OutOfMemory

text_refused_status : (bytes : List ℕ) (fault : TextFault) (expected : Status) → IsUnread bytes fault
    → ((line : ℕ) (kind : TextKind) → IsScheduleRefused bytes line kind → (fault.kind ≡ text_kind.OutOfMemory)
    ⊎ ((fault.line ≡ line) × (fault.kind ≡ kind)))
    → RefusesCheck bytes expected → (status_of_text_fault fault ≡ expected) ⊎ (status_of_text_fault fault ≡ OutOfMemory)
text_refused_status bytes fault expected unread refused (inl input) =
    status_of_text_refused bytes expected fault input (refused input.number input.cause.cause input.cause.refused)
text_refused_status bytes fault expected unread refused (inr invalid) =
    inr (memory_of_text_fault fault (unread invalid.cause.schedule invalid.cause.is_text.is_schedule invalid.cause.is_text.text))

pub answers_text_fault : {Makes : List ℕ → Type 0} (bytes : List ℕ) (fault : TextFault) → IsUnread bytes fault
    → (fault.kind ≡ text_kind.OutOfMemory) ⊎ IsScheduleRefused bytes fault.line fault.kind
    → ((line : ℕ) (kind : TextKind) → IsScheduleRefused bytes line kind → (fault.kind ≡ text_kind.OutOfMemory)
    ⊎ ((fault.line ≡ line) × (fault.kind ≡ kind)))
    → Answers Makes (IsValidText bytes) (RefusesCheck bytes) (Err (status_of_text_fault fault))
answers_text_fault bytes fault unread why refused =
    record {
      makes = tt;
      refused = text_refused bytes fault why;
      accepts = λ accepted. memory_of_text_fault fault (unread accepted.0 accepted.1.is_schedule accepted.1.text);
      refuses = λ expected. text_refused_status bytes fault expected unread refused;
    }

-- ---- the text of a schedule
module _ (bytes : List ℕ) (schedule : ScheduleData) (ok : IsSchedule schedule) (text : bytes ≡ text_of_schedule schedule)
    (only : (other : ScheduleData) → IsSchedule other → bytes ≡ text_of_schedule other → schedule ≡ other) where
  schedule_refused_status : (status expected : Status) → ((line : ℕ) (kind : TextKind) → IsScheduleRefused bytes line kind → ⊥)
      → ((number defect : ℕ) → IsInvalid schedule number defect → (status ≡ Invalid number defect) ⊎ (status ≡ OutOfMemory))
      → RefusesCheck bytes expected → (status ≡ expected) ⊎ (status ≡ OutOfMemory)
  schedule_refused_status status expected unrefused judged (inl input) =
      absurd (unrefused input.number input.cause.cause input.cause.refused)
  schedule_refused_status status expected unrefused judged (inr invalid) =
      let same = only invalid.cause.schedule invalid.cause.is_text.is_schedule invalid.cause.is_text.text in
      elim (judged invalid.number invalid.defect
      (subst (λ (x : ScheduleData). IsInvalid x invalid.number invalid.defect) (sym same) invalid.cause.invalid)) [
        | inl found ↦ inl (found ∙ sym invalid.answer)
        | inr memory ↦ inr memory
      ]

  valid_unrefused : (expected : Status) → IsValid schedule → ((line : ℕ) (kind : TextKind) → IsScheduleRefused bytes line kind → ⊥)
      → RefusesCheck bytes expected → ⊥
  valid_unrefused expected valid unrefused (inl input) = unrefused input.number input.cause.cause input.cause.refused
  valid_unrefused expected valid unrefused (inr invalid) =
      let same = only invalid.cause.schedule invalid.cause.is_text.is_schedule invalid.cause.is_text.text in
      valid_is_not_invalid schedule ok invalid.number invalid.defect valid
      (subst (λ (x : ScheduleData). IsInvalid x invalid.number invalid.defect) (sym same) invalid.cause.invalid)

  is_check_of : (put : List ℕ) → IsValid schedule → put ≡ valid_text (length schedule.entries) → IsCheckOf bytes put
  is_check_of put valid reported = record {
    schedule = schedule;
    is_text = record { is_schedule = ok; text = text };
    valid = valid;
    best = valid_is_best schedule ok valid;
    no_improving_chain = valid_has_no_improving_chain schedule ok valid;
    reported = reported;
  }

  invalid_refused : (status : Status) → IsInvalidStatus schedule status ⊎ (status ≡ OutOfMemory)
      → RefusesCheck bytes status ⊎ (status ≡ OutOfMemory)
  invalid_refused status (inl bad) = inl (inr record {
    number = bad.0;
    defect = bad.1;
    answer = bad.2;
    cause = record { schedule = schedule; is_text = record { is_schedule = ok; text = text }; invalid = bad.3 };
  })
  invalid_refused status (inr memory) = inr memory

  -- the answer to a schedule that was judged is that to the bytes
  answers_judged : (IsMadeOf : List ℕ → Type 0) (Makes : List ℕ → Type 0) (result : Result (Vec ℕ Global) Status)
      → ((put : List ℕ) → IsValid schedule → IsMadeOf put → Makes put)
      → ((line : ℕ) (kind : TextKind) → IsScheduleRefused bytes line kind → ⊥)
      → IfOk result (λ (made : Vec ℕ Global). IsValid schedule × IsMadeOf made.items)
      → IfErr result (λ (status : Status). IsInvalidStatus schedule status ⊎ (status ≡ OutOfMemory))
      → Answers Makes (IsValidText bytes) (RefusesCheck bytes) result
  answers_judged IsMadeOf Makes (Ok made) makes unrefused valid refused =
      record {
        makes = makes made.items valid.0 valid.1;
        refused = tt;
        accepts = λ accepted. tt;
        refuses = λ expected. valid_unrefused expected valid.0 unrefused;
      }
  answers_judged IsMadeOf Makes (Err status) makes unrefused valid refused =
      record {
        makes = tt;
        refused = invalid_refused status refused;
        accepts = λ accepted. memory_of_valid schedule status ok
            (subst IsValid (sym (only accepted.0 accepted.1.is_schedule accepted.1.text)) accepted.2) refused;
        refuses = λ expected. schedule_refused_status status expected unrefused
            (λ number defect invalid. status_of_invalid schedule status number defect ok invalid refused);
      }

  -- the answer of a check
  pub answers_checked : (result : Result (Vec ℕ Global) Status) → ((line : ℕ) (kind : TextKind) → IsScheduleRefused bytes line kind → ⊥)
      → IfOk result (λ (made : Vec ℕ Global). IsValid schedule × (made.items ≡ valid_text (length schedule.entries)))
      → IfErr result (λ (status : Status). IsInvalidStatus schedule status ⊎ (status ≡ OutOfMemory))
      → Answers (IsCheckOf bytes) (IsValidText bytes) (RefusesCheck bytes) result
  answers_checked result = answers_judged (λ put. put ≡ valid_text (length schedule.entries)) (IsCheckOf bytes) result is_check_of

  is_drawing_of : (axis : Axis) (window : Window) (put : List ℕ) → IsValid schedule
      → IsPicture axis schedule.set schedule.entries window put → IsDrawingOf axis window bytes put
  is_drawing_of axis window put valid picture =
      record { schedule = schedule; is_text = record { is_schedule = ok; text = text }; valid = valid; picture = picture }

  -- the answer of a drawing
  pub answers_drawn : (axis : Axis) (window : Window) (result : Result (Vec ℕ Global) Status)
      → ((line : ℕ) (kind : TextKind) → IsScheduleRefused bytes line kind → ⊥)
      → IfOk result (λ (made : Vec ℕ Global). IsValid schedule × IsPicture axis schedule.set schedule.entries window made.items)
      → IfErr result (λ (status : Status). IsInvalidStatus schedule status ⊎ (status ≡ OutOfMemory))
      → Answers (IsDrawingOf axis window bytes) (IsValidText bytes) (RefusesCheck bytes) result
  answers_drawn axis window result = answers_judged (IsPicture axis schedule.set schedule.entries window) (IsDrawingOf axis window bytes)
      result (is_drawing_of axis window)

  is_chrome_of : (start : ℕ) (put : List ℕ) → IsValid schedule → IsChrome start schedule.set schedule.entries put
      → IsChromeOf start bytes put
  is_chrome_of start put valid chrome =
      record { schedule = schedule; is_text = record { is_schedule = ok; text = text }; valid = valid; chrome = chrome }

  -- the answer of a trace
  pub answers_traced : (start : ℕ) (result : Result (Vec ℕ Global) Status)
      → ((line : ℕ) (kind : TextKind) → IsScheduleRefused bytes line kind → ⊥)
      → IfOk result (λ (made : Vec ℕ Global). IsValid schedule × IsChrome start schedule.set schedule.entries made.items)
      → IfErr result (λ (status : Status). IsInvalidStatus schedule status ⊎ (status ≡ OutOfMemory))
      → Answers (IsChromeOf start bytes) (IsValidText bytes) (RefusesCheck bytes) result
  answers_traced start result =
      answers_judged (IsChrome start schedule.set schedule.entries) (IsChromeOf start bytes) result (is_chrome_of start)
