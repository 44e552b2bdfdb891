-- The stages of the reader are a machine, whose texts are those of schedules. So the laws of all machines are those of schedules.
use Rattle.std.proofs.Common.{◌≡◌, ℕ, ◌+◌, ◌⊎◌, inl, inr, List, [], ◌∷◌, ◌++◌, Result, Ok, Err, IfOk, MatchResult, refl, sym, ◌∙◌, subst}
use Rattle.std.proofs.Common.{append_assoc, append-nil}
use Rattle.std.specs.List.{flat_map}
use Rattle.text_fields.specs.Choice.{IsDecided}
use Rattle.text_fields.specs.LineText.{line}
use Rattle.text_fields.specs.Laws.{IsTextOf}
use Rattle.text_fields.specs.Machine.{Outcome, Leads, Fails, IsText, answer_at_end, IsMachine}
use Rattle.text_fields.proofs.Choices.{only}
use Rattle.text_fields.proofs.TextLaws as laws
use Rattle.schedule_text.specs.Schedule.{ScheduleData, IsSchedule}
use Rattle.schedule_text.specs.ScheduleFault.{IsScheduleRefused}
use Rattle.schedule_text.specs.Prefix.{Progress, HeaderExpected, Ended, IsPrefix}
use Rattle.schedule_text.specs.Laws.{text_of_schedule, TextHasOneSchedule, TextHasOneFault, ScheduleHasNoFault, AcceptedOrRefused}
use Rattle.schedule_text.specs.LineOutcome.{Piece, Line, Unended, piece_bytes, pieces_of, IsPieceOutcome, IsEndOutcome}
use Rattle.schedule_text.specs.Reading.{IsOutOfMemory, IsAnswerTo}
use Rattle.schedule_text.specs.declared.fault.TextFault.{TextFault}
use Rattle.schedule_text.specs.declared.fault.TextKind.{TextKind}
use Rattle.schedule_text.specs.declared.fault.TextKind.TheVariants.{Short}
use Rattle.schedule_text.proofs.Pieces.{IsCut, pieces_cut, pieces_back}
use Rattle.schedule_text.proofs.Prefixes.{not_failed, leads_next}
use Rattle.schedule_text.proofs.LinesDecided.{line_decided}
use Rattle.schedule_text.proofs.Paths.{schedule_reached}
use Rattle.schedule_text.proofs.SoFar.{Answers, IsReadTo, read_start, read_more}

-- ---- the machine

piece_decided : (expected : Progress) (piece : Piece) → IsPrefix expected → IsDecided (IsPieceOutcome expected piece)
piece_decided expected (Line text) prefix = line_decided expected text prefix
piece_decided expected (Unended text) prefix = only _

piece_keeps : (expected : Progress) (piece : Piece) (next : Progress) → IsPrefix expected
    → IsPieceOutcome expected piece (Leads next) → IsPrefix next
piece_keeps expected (Line text) next prefix says = (leads_next expected text next prefix says).prefix
piece_keeps expected (Unended text) next prefix e = not_failed next _ e

end_decided : (expected : Progress) → IsDecided (IsEndOutcome expected)
end_decided (Ended version set entries contexts) = only _
end_decided _ = only _

pub schedule_machine : IsMachine HeaderExpected IsPrefix IsPieceOutcome IsEndOutcome
schedule_machine = record {
  starts = tt;
  keeps = piece_keeps;
  one_outcome = λ p piece outcome other valid. let decided = piece_decided p piece valid in decided.one outcome other;
  some_outcome = λ p piece valid. let decided = piece_decided p piece valid in decided.some;
  one_end = λ p outcome other valid. let decided = end_decided p in decided.one outcome other;
  some_end = λ p valid. let decided = end_decided p in decided.some;
}

-- ---- what it says is right

right : (bytes : List ℕ) (number : ℕ) (expected : Progress) (pieces : List Piece) (schedule : ScheduleData) → IsCut pieces
    → IsReadTo bytes (flat_map piece_bytes pieces) number expected → Answers number expected pieces (IsText schedule)
    → IsSchedule schedule × (bytes ≡ text_of_schedule schedule)
right bytes number (Ended version set entries contexts) [] schedule cut so_far (last, ends, e) =
    let all : ScheduleData = record { version = version; set = set; entries = entries; contexts = contexts } in
    subst (λ (s : ScheduleData). IsSchedule s × (bytes ≡ text_of_schedule s)) (said ends e)
    (so_far.prefix, so_far.order ∙ append-nil (text_of_schedule all))
  where
    said : {all : ScheduleData} {last : Outcome ScheduleData TextKind} → last ≡ Leads all
        → IsText schedule ≡ answer_at_end number last → all ≡ schedule
    said is e = cc
right bytes number expected [] schedule cut so_far (last, ends, e) = absurd (none ends e)
  where
    none : {last : Outcome ScheduleData TextKind} → last ≡ Fails Short → IsText schedule ≡ answer_at_end number last → ⊥
    none is e = cc
right bytes number expected (piece ∷ rest) schedule cut so_far (inl (kind, fault, e)) = absurd (cc)
right bytes number expected (Line text ∷ rest) schedule cut so_far (inr (next, says, later)) =
    right bytes (number + 1) next rest schedule cut.1
    (read_more bytes (line text ++ flat_map piece_bytes rest) text (flat_map piece_bytes rest) number expected next so_far
    (append_assoc text (10 ∷ []) (flat_map piece_bytes rest), cut.0) says) later
right bytes number expected (Unended text ∷ rest) schedule cut so_far (inr (next, e, later)) = not_failed next _ e

text_right : (bytes : List ℕ) (schedule : ScheduleData)
    → IsTextOf pieces_of HeaderExpected IsPieceOutcome IsEndOutcome bytes schedule
    → IsSchedule schedule × (bytes ≡ text_of_schedule schedule)
text_right bytes schedule text =
    right bytes 1 HeaderExpected (pieces_of bytes) schedule (pieces_cut bytes)
    (subst (λ (rest : List ℕ). IsReadTo bytes rest 1 HeaderExpected) (sym (pieces_back bytes)) (read_start bytes)) text

-- ---- and what is right it says

text_is : (schedule : ScheduleData) → IsSchedule schedule
    → IsTextOf pieces_of HeaderExpected IsPieceOutcome IsEndOutcome (text_of_schedule schedule) schedule
text_is schedule valid =
    let is = (schedule_reached schedule valid).read [] in
    subst (λ (text : List ℕ). Answers 1 HeaderExpected (pieces_of text) (IsText schedule))
    (append-nil (text_of_schedule schedule)) (is.back (IsText schedule) (Leads schedule, refl, refl))

-- ---- the laws

pub text_has_one_schedule : TextHasOneSchedule
text_has_one_schedule one other valid valid' same =
    laws.one_value schedule_machine pieces_of (text_of_schedule one) one other (text_is one valid)
    (subst (λ (bytes : List ℕ). IsTextOf pieces_of HeaderExpected IsPieceOutcome IsEndOutcome bytes other)
    (sym same) (text_is other valid'))

pub text_has_one_fault : TextHasOneFault
text_has_one_fault bytes number other kind another one two =
    laws.one_fault schedule_machine pieces_of bytes number other kind another one two

pub schedule_has_no_fault : ScheduleHasNoFault
schedule_has_no_fault schedule number kind valid refused =
    laws.never_both schedule_machine pieces_of (text_of_schedule schedule) schedule number kind
    (text_is schedule valid) refused

pub accepted_or_refused : AcceptedOrRefused
accepted_or_refused bytes = elim (laws.always_one schedule_machine pieces_of bytes) [
  | inl (schedule, text) ↦ (let is = text_right bytes schedule text in inl (schedule, is.0, is.1))
  | inr refused ↦ inr refused
]

-- ---- what a reader answers

module _ (bytes : List ℕ) (result : Result ScheduleData TextFault) (is : IsAnswerTo bytes result) where
  -- where it answers a schedule, the bytes are its text
  pub answers_text : IfOk result (λ answer. bytes ≡ text_of_schedule answer)
  answers_text = by result is.0
    where
      by : (result : Result ScheduleData TextFault)
          → IfOk result (IsTextOf pieces_of HeaderExpected IsPieceOutcome IsEndOutcome bytes)
          → IfOk result (λ answer. bytes ≡ text_of_schedule answer)
      by (Ok answer) text = (text_right bytes answer text).1
      by (Err fault) text = tt

  -- for the text of a schedule, this schedule
  pub answers_schedule : (schedule : ScheduleData) → IsSchedule schedule → bytes ≡ text_of_schedule schedule
      → MatchResult result (λ answer. answer ≡ schedule) (λ fault. IsOutOfMemory fault.kind)
  answers_schedule schedule valid text =
      laws.answers_value schedule_machine pieces_of IsOutOfMemory (λ (fault : TextFault). fault.line) (λ fault. fault.kind) bytes
      result is.0 is.1 schedule (subst (λ (all : List ℕ). IsTextOf pieces_of HeaderExpected IsPieceOutcome IsEndOutcome all schedule)
      (sym text) (text_is schedule valid))

  -- for a text that is refused, its line and its kind
  pub answers_fault : (line : ℕ) (kind : TextKind) → IsScheduleRefused bytes line kind
      → MatchResult result (λ answer. ⊥) (λ fault. IsOutOfMemory fault.kind ⊎ ((fault.line ≡ line) × (fault.kind ≡ kind)))
  answers_fault =
      laws.answers_fault schedule_machine pieces_of IsOutOfMemory (λ (fault : TextFault). fault.line) (λ fault. fault.kind) bytes
      result is.0 is.1
