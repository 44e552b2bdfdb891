-- What was read so far of a text, and what it comes to.
use Rattle.std.proofs.Common.{◌≡◌, ◌≢◌, ℕ, ◌+◌, ◌≤◌, inl, inr, List, [], ◌∷◌, ◌++◌, length, Contains, Result, Ok, Err, IfOk, IfErr, refl}
use Rattle.std.proofs.Common.{sym, ap, ◌∙◌, subst, arith, append_assoc, length-append}
use Rattle.text_fields.specs.LineText.{line}
use Rattle.text_fields.specs.Machine.{Leads, Fails, Answer, IsText, Refuses, IsAnswer}
use Rattle.schedule_text.specs.Schedule.{ScheduleData}
use Rattle.schedule_text.specs.ScheduleFault.{IsScheduleRefused}
use Rattle.schedule_text.specs.Prefix.{Progress, whole, HeaderExpected, text_so_far, IsPrefix, IsWholePrefix}
use Rattle.schedule_text.specs.LineOutcome.{Piece, Line, Unended, pieces_of, kind_of_more, IsOutcome, IsPieceOutcome, IsEndOutcome}
use Rattle.schedule_text.specs.Reading.{progress_of_list, progress_of, progress_after_lists, progress_after, IsAnswerTo, Says}
use Rattle.schedule_text.specs.declared.fault.TextKind.{TextKind}
use Rattle.schedule_text.specs.declared.fault.TextKind.TheVariants.{Short, AfterEnd}
use Rattle.schedule_text.specs.declared.fault.TextFault.{TextFault}
use Rattle.schedule_text.specs.declared.stage.Stage.{Stage}
use Rattle.schedule_text.specs.declared.stage.Stage.TheVariants as stages
use Rattle.schedule_text.specs.declared.stage.Lists.{Lists}
use Rattle.schedule_text.specs.declared.stage.Listing.{Listing}
use Rattle.schedule_text.specs.declared.stage.Listing.TheVariants as listings
use Rattle.schedule_text.specs.declared.stage.Reached.TheVariants.{End}
use Rattle.schedule_text.proofs.Pieces.{line_piece, unended_piece, first_piece}
use Rattle.schedule_text.proofs.Prefixes.{leads_next}

-- the answer to the pieces from here on
abbrev pub Answers : ℕ → Progress → List Piece → Answer ScheduleData TextKind → Type 0
Answers number expected pieces answer = IsAnswer IsPieceOutcome IsEndOutcome number expected pieces answer

-- the bytes before the rest are a prefix of a schedule, and what the rest comes to they come to
pub record IsReadTo (bytes rest : List ℕ) (number : ℕ) (expected : Progress) : Type 0 where
  pub prefix : IsPrefix expected
  pub order : bytes ≡ text_so_far expected ++ rest
  pub bound : number + length rest ≤ length bytes + 1
  pub back : (answer : Answer ScheduleData TextKind) → Answers number expected (pieces_of rest) answer
      → Answers 1 HeaderExpected (pieces_of bytes) answer

pub read_start : (bytes : List ℕ) → IsReadTo bytes bytes 1 HeaderExpected
read_start bytes = record { prefix = tt; order = refl; bound = omega arith; back = λ answer is. is }

pub read_more : (bytes rest text after : List ℕ) (number : ℕ) (expected next : Progress)
    → IsReadTo bytes rest number expected → (rest ≡ text ++ 10 ∷ after) × (Contains text 10 → ⊥)
    → Says expected text next → IsReadTo bytes after (number + 1) next
read_more bytes rest text after number expected next so_far (cut, none) says =
    let is = leads_next expected text next so_far.prefix says in
    record {
      prefix = is.prefix;
      order =
          so_far.order ∙ ap (λ (back : List ℕ). text_so_far expected ++ back)
          (cut ∙ sym (append_assoc text (10 ∷ []) after))
          ∙ sym (append_assoc (text_so_far expected) (line text) after)
          ∙ ap (λ (prefix : List ℕ). prefix ++ after) (sym is.is_text);
      bound = (let bound = so_far.bound in omega (arith, ap length cut, length-append text (10 ∷ after)));
      back = λ answer later. so_far.back answer
          (subst (λ (pieces : List Piece). Answers number expected pieces answer)
          (sym (ap pieces_of cut ∙ line_piece text after none)) (inr (next, says, later)));
    }

-- ---- where it is refused

refused_at : (bytes rest : List ℕ) (number : ℕ) (expected : Progress) (kind : TextKind) (piece : Piece) (more : List Piece)
    → IsReadTo bytes rest number expected → pieces_of rest ≡ piece ∷ more → IsPieceOutcome expected piece (Fails kind)
    → IsScheduleRefused bytes number kind
refused_at bytes rest number expected kind piece more so_far cut fault =
    so_far.back (Refuses number kind) (subst (λ (pieces : List Piece). Answers number expected pieces (Refuses number kind))
    (sym cut) (inl (kind, fault, refl)))

pub read_fault : (bytes rest text after : List ℕ) (number : ℕ) (expected : Progress) (kind : TextKind)
    → IsReadTo bytes rest number expected → (rest ≡ text ++ 10 ∷ after) × (Contains text 10 → ⊥)
    → IsOutcome expected text (Fails kind) → IsScheduleRefused bytes number kind
read_fault bytes rest text after number expected kind so_far (cut, none) fault =
    refused_at bytes rest number expected kind (Line text) (pieces_of after) so_far
    (ap pieces_of cut ∙ line_piece text after none) fault

-- a stage expects a line
list_expects : (list : Listing) (lists : Lists)
    → (Short ≡ kind_of_more (progress_of_list list lists.version lists.set lists.entries.items lists.contexts.items))
    × IsEndOutcome (progress_of_list list lists.version lists.set lists.entries.items lists.contexts.items) (Fails Short)
list_expects listings.Tasks lists = (refl, refl)
list_expects (listings.Entries count) lists = (refl, refl)
list_expects listings.Contexts lists = (refl, refl)

expects : (stage : Stage) → (Short ≡ kind_of_more (progress_of stage)) × IsEndOutcome (progress_of stage) (Fails Short)
expects stages.HeaderExpected = (refl, refl)
expects (stages.ProcessorsExpected version) = (refl, refl)
expects (stages.Listed lists) = list_expects lists.list lists

pub read_short : (bytes rest : List ℕ) (number : ℕ) (stage : Stage) → IsReadTo bytes rest number (progress_of stage)
    → (Contains rest 10 → ⊥) → IsScheduleRefused bytes number Short
read_short bytes [] number stage so_far none = so_far.back (Refuses number Short) (Fails Short, (expects stage).1, refl)
read_short bytes (byte ∷ rest) number stage so_far none =
    refused_at bytes (byte ∷ rest) number (progress_of stage) Short (Unended (byte ∷ rest)) [] so_far
    (unended_piece byte rest none) (ap (λ (kind : TextKind). Fails kind) (expects stage).0)

read_past : (bytes rest : List ℕ) (number : ℕ) (schedule : ScheduleData)
    → IsReadTo bytes rest number (whole schedule) → rest ≢ [] → IsScheduleRefused bytes number AfterEnd
read_past bytes rest number schedule so_far some =
    let first = first_piece rest some in
    refused_at bytes rest number (whole schedule) AfterEnd first.0 first.1 so_far first.2 (by first.0)
  where
    by : (piece : Piece) → IsPieceOutcome (whole schedule) piece (Fails AfterEnd)
    by (Line text) = refl
    by (Unended text) = refl

-- ---- after the last line

-- a last line leads to a whole schedule
pub leads_whole : (expected : Progress) (text : List ℕ) (next : Stage) → IsPrefix expected
    → Says expected text (progress_after End next) → IsWholePrefix (progress_after End next)
leads_whole expected text (stages.Listed lists) prefix says =
    (leads_next expected text (progress_after_lists End lists) prefix says).prefix
leads_whole expected text _ prefix says =
    let none = (leads_next expected text HeaderExpected prefix says).is_text in
    omega (arith, ap length none, length-append (text_so_far expected) (line text), length-append text (10 ∷ []))

-- what is answered there
module _ (bytes after : List ℕ) (number : ℕ) (schedule : ScheduleData)
    (so_far : IsReadTo bytes after number (whole schedule)) where
  pub end_answer : (result : Result ScheduleData TextFault) → IfOk result (λ answer. (answer ≡ schedule) × (after ≡ []))
      → IfErr result (λ fault. (fault.line ≡ number) × (fault.kind ≡ AfterEnd) × (after ≢ []))
      → IsAnswerTo bytes result
  end_answer (Ok answer) read refused = (
    subst (λ (s : ScheduleData). Answers 1 HeaderExpected (pieces_of bytes) (IsText s)) (sym read.0)
        (so_far.back (IsText schedule) (ended after read.1)),
    tt,
  )
    where
      ended : (after : List ℕ) → after ≡ [] → Answers number (whole schedule) (pieces_of after) (IsText schedule)
      ended [] none = (Leads schedule, refl, refl)
      ended (byte ∷ after) none = absurd (cc)
  end_answer (Err fault) read refused =
      (tt, inr (rw (refused.0, refused.1) (read_past bytes after number schedule so_far refused.2)))
