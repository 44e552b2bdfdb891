-- The texts of the machine are those of inputs, and it refuses what is refused. So the laws of all machines are those of inputs.
use Rattle.std.proofs.Common.{◌≡◌, ◌≢◌, ℕ, ◌+◌, ◌⊎◌, true, List, [], ◌∷◌, length, refl, sym, ap, subst, inl, inr, arith}
use Rattle.std.specs.Prelude.{All}
use Rattle.std.specs.List.{FoldsTo}
use Rattle.std.proofs.lemmas.Bool.{cases_Bool}
use Rattle.std.proofs.lemmas.List.Elements.{All-nil, All-cons, All-head, All-tail}
use Rattle.text_fields.specs.LineRule.{IsLineOutcome}
use Rattle.text_fields.specs.Machine.{Outcome, Leads, Fails, IsMachine, Leading}
use Rattle.text_fields.specs.Machine as machine
use Rattle.text_fields.specs.Laws.{IsTextOf, IsRefused}
use Rattle.text_fields.proofs.LineRule.{lines_machine}
use Rattle.text_fields.proofs.TextLaws as laws
use Rattle.task_set.specs.TaskSet.{SetData}
use Rattle.trace_reader.specs.declared.posted.Posted.{Posted}
use Rattle.trace_reader.specs.declared.fault.InputKind.{InputKind}
use Rattle.trace_reader.specs.declared.fault.InputKind.TheVariants.{NoEnd}
use Rattle.trace_reader.specs.Input.{InputData}
use Rattle.trace_reader.specs.InputText.{IsInputText}
use Rattle.trace_reader.specs.InputFault.{input_kind, IsInputRefused}
use Rattle.trace_reader.specs.Laws.{TextHasOneInput, TextHasOneFault, InputHasNoFault, AcceptedOrRefused}
use Rattle.text_fields.specs.Lines.{lines_of, fields_of}
use Rattle.trace_reader.specs.Lines.{is_skipped, said_by, IsClean}
use Rattle.trace_reader.specs.Progress.{Progress, HeaderExpected, ProcessorsExpected, Listed, Ended}
use Rattle.trace_reader.specs.LineOutcome.{IsFieldsOutcome}
use Rattle.trace_reader.specs.Reading.{Says, IsExpected, IsEndOutcome}
use Rattle.trace_reader.proofs.LinesCut.{said_by-kept, said_by-skipped}
use Rattle.trace_reader.proofs.Machine.{input_machine}
use Rattle.trace_reader.proofs.Paths.{expects_steps, steps_expect}

-- what a line comes to
abbrev Comes : Progress → List ℕ → Outcome Progress InputKind → Type 0
Comes expected line outcome = IsLineOutcome 4096 true input_kind IsFieldsOutcome expected line outcome

text_machine : IsMachine HeaderExpected IsExpected Comes IsEndOutcome
text_machine = lines_machine 4096 true input_kind input_machine

same_next : (one two : Progress) → ◌≡◌ {A = Outcome Progress InputKind} (Leads one) (Leads two) → one ≡ two
same_next one two e = cc

same_kind : {P : Type 0} (one two : InputKind) → ◌≡◌ {A = Outcome P InputKind} (Fails one) (Fails two) → one ≡ two
same_kind one two e = cc

leads_not_fails : {A P : Type 0} (next : P) (kind : InputKind) → ◌≡◌ {A = Outcome P InputKind} (Leads next) (Fails kind) → A
leads_not_fails next kind e = cc

-- ---- lines without fault
-- a line that leads on is clean, and its fields lead on where it is not skipped
line_leads : (p q next : Progress) (line : List ℕ) (rest : List (List ℕ)) → Comes p line (Leads next)
    → FoldsTo Says next (said_by rest) q → IsClean line × FoldsTo Says p (said_by (line ∷ rest)) q
line_leads p q next line rest (inl bad) more = leads_not_fails next _ bad.1
line_leads p q next line rest (inr (inl long)) more = leads_not_fails next _ long.2
line_leads p q next line rest (inr (inr (inl (clean, skipped, e)))) more = (
  clean,
  rw (said_by-skipped line rest skipped)
      (subst (λ (from : Progress). FoldsTo Says from (said_by rest) q) (same_next next p e) more),
)
line_leads p q next line rest (inr (inr (inr (clean, kept, says)))) more = (clean, rw (said_by-kept line rest kept) (next, says, more))

clean_steps : (p q : Progress) (lines : List (List ℕ)) → Leading Comes p lines q → All IsClean lines × FoldsTo Says p (said_by lines) q
clean_steps p q [] same = (All-nil IsClean, same)
clean_steps p q (line ∷ rest) (next, leads, more) =
    let later = clean_steps next q rest more in
    let here = line_leads p q next line rest leads later.1 in
    (All-cons IsClean line rest here.0 later.0, here.1)

steps_lead : (p q : Progress) (lines : List (List ℕ)) → All IsClean lines → FoldsTo Says p (said_by lines) q → Leading Comes p lines q
steps_lead p q [] clean same = same
steps_lead p q (line ∷ rest) clean steps = elim (cases_Bool (is_skipped (fields_of line))) [
  | inl skipped ↦ (
    p,
    inr (inr (inl (All-head IsClean line rest clean, skipped, refl))),
    steps_lead p q rest (All-tail IsClean line rest clean) (rw (said_by-skipped line rest skipped) at steps),
  )
  | inr kept ↦ (
      let each : FoldsTo Says p (fields_of line ∷ said_by rest) q = rw (said_by-kept line rest kept) at steps in (
        each.0,
        inr (inr (inr (All-head IsClean line rest clean, kept, each.1))),
        steps_lead each.0 q rest (All-tail IsClean line rest clean) each.2,
      ))
]

-- ---- the end
end_fault : (p : Progress) (kind : InputKind) → IsEndOutcome p (Fails kind)
    → ((version : ℕ) (set : SetData) (events : List Posted) → p ≢ Ended version set events) × (kind ≡ NoEnd)
end_fault HeaderExpected kind e = (λ version set events f. cc, same_kind {P = InputData} kind NoEnd e)
end_fault (ProcessorsExpected same) kind e = (λ version set events f. cc, same_kind {P = InputData} kind NoEnd e)
end_fault (Listed same listed posted) kind e = (λ version set events f. cc, same_kind {P = InputData} kind NoEnd e)
end_fault (Ended same listed posted) kind e = leads_not_fails {P = InputData} _ kind (sym e)

unended : (p : Progress) → ((version : ℕ) (set : SetData) (events : List Posted) → p ≢ Ended version set events)
    → IsEndOutcome p (Fails NoEnd)
unended HeaderExpected none = refl
unended (ProcessorsExpected version) none = refl
unended (Listed version set events) none = refl
unended (Ended version set events) none = absurd (none version set events refl)

-- ---- texts
-- the end of the text of an input
ended : (bytes : List ℕ) (input : InputData) (last : Progress) → Leading Comes HeaderExpected (lines_of bytes) last
    → IsEndOutcome last (Leads input) → IsInputText input.version bytes input.set input.events
ended bytes input HeaderExpected leads e = leads_not_fails {P = InputData} input NoEnd e
ended bytes input (ProcessorsExpected version) leads e = leads_not_fails {P = InputData} input NoEnd e
ended bytes input (Listed version set events) leads e = leads_not_fails {P = InputData} input NoEnd e
ended bytes input (Ended version set events) leads e =
    let same : input ≡ record { version = version; set = set; events = events } = by_leads e in
    let steps = clean_steps HeaderExpected (Ended version set events) (lines_of bytes) leads in
    let expects = steps_expect [] (said_by (lines_of bytes)) HeaderExpected (Ended version set events) refl steps.1 in
    subst (λ (read : InputData). IsInputText read.version bytes read.set read.events) (sym same)
    (record { body = expects.0; clean = steps.0; order = expects.1; says = expects.2 })
  where
    by_leads : {one two : InputData} → ◌≡◌ {A = Outcome InputData InputKind} (Leads one) (Leads two) → one ≡ two
    by_leads e = cc

pub read_is_text : (bytes : List ℕ) (input : InputData) → IsTextOf lines_of HeaderExpected Comes IsEndOutcome bytes input
    → IsInputText input.version bytes input.set input.events
read_is_text bytes input text =
    let way = laws.text_leads text_machine lines_of 1 HeaderExpected (lines_of bytes) input text in
    ended bytes input way.0 way.1 way.2

pub text_is_read : (bytes : List ℕ) (version : ℕ) (set : SetData) (events : List Posted) → IsInputText version bytes set events
    → IsTextOf lines_of HeaderExpected Comes IsEndOutcome bytes (record { version = version; set = set; events = events })
text_is_read bytes version set events text =
    let steps = expects_steps (said_by (lines_of bytes)) (Ended version set events) (text.body, text.order, text.says) in
    laws.leads_to_end text_machine lines_of HeaderExpected (Ended version set events) (lines_of bytes)
    (Leads (record { version = version; set = set; events = events }))
    (steps_lead HeaderExpected (Ended version set events) (lines_of bytes) text.clean steps) refl

pub fault_is_refused : (bytes : List ℕ) (number : ℕ) (kind : InputKind)
    → IsRefused lines_of HeaderExpected Comes IsEndOutcome bytes number kind
    → IsInputRefused bytes number kind
fault_is_refused bytes number kind refused =
    by (laws.before_is_fine text_machine lines_of bytes number kind refused)
  where
    by : machine.IsFaultOfLine HeaderExpected Comes (lines_of bytes) number kind
        ⊎ machine.IsFaultOfEnd HeaderExpected Comes IsEndOutcome (lines_of bytes) number kind
        → IsInputRefused bytes number kind
    by (inl first) =
        let steps = clean_steps HeaderExpected first.expected first.before first.expects in
        inl record {
          before = first.before;
          line = first.line;
          after = first.after;
          expected = first.expected;
          order = first.order;
          place = first.place;
          clean = steps.0;
          expects = steps_expect [] (said_by first.before) HeaderExpected first.expected refl steps.1;
          fault = first.fault;
        }
    by (inr last) =
        let steps = clean_steps HeaderExpected last.expected (lines_of bytes) last.expects in
        let why = end_fault last.expected kind last.fault in
        inr (
          record {
            expected = last.expected;
            clean = steps.0;
            expects = steps_expect [] (said_by (lines_of bytes)) HeaderExpected last.expected refl steps.1;
            unended = why.0;
            place = last.place;
          },
          why.1,
        )

pub refused_is_fault : (bytes : List ℕ) (number : ℕ) (kind : InputKind) → IsInputRefused bytes number kind
    → IsRefused lines_of HeaderExpected Comes IsEndOutcome bytes number kind
refused_is_fault bytes number kind (inl first) =
    laws.first_fault_decides text_machine lines_of bytes number kind record {
      before = first.before;
      line = first.line;
      after = first.after;
      expected = first.expected;
      order = first.order;
      place = first.place;
      expects = steps_lead HeaderExpected first.expected first.before first.clean
          (expects_steps (said_by first.before) first.expected first.expects);
      fault = first.fault;
    }
refused_is_fault bytes number kind (inr (last, is_kind)) =
    let leads = steps_lead HeaderExpected last.expected (lines_of bytes) last.clean
    (expects_steps (said_by (lines_of bytes)) last.expected last.expects) in
    let at_end = laws.leads_to_end text_machine lines_of HeaderExpected last.expected (lines_of bytes)
    (Fails NoEnd) leads (unended last.expected last.unended) in
    let place : 1 + length (lines_of bytes) ≡ number = (let e = last.place in omega arith) in
    let At : ℕ → InputKind → Type 0 = λ n k. IsRefused lines_of HeaderExpected Comes IsEndOutcome bytes n k in
    subst (At number) (sym is_kind) (subst (λ (n : ℕ). At n NoEnd) place at_end)

-- ---- the laws
pub same_data : (version another : ℕ) (set other : SetData) (events others : List Posted)
    → ◌≡◌ {A = InputData} (record { version = version; set = set; events = events })
    (record { version = another; set = other; events = others })
    → (version ≡ another) × (set ≡ other) × (events ≡ others)
same_data version another set other events others e =
    (ap (λ (input : InputData). input.version) e, ap (λ (input : InputData). input.set) e, ap (λ (input : InputData). input.events) e)

pub text_has_one_input : TextHasOneInput
text_has_one_input bytes version another set other events others one two =
    same_data version another set other events others
    (laws.one_value text_machine lines_of bytes _ _
    (text_is_read bytes version set events one) (text_is_read bytes another other others two))

pub text_has_one_fault : TextHasOneFault
text_has_one_fault bytes number other kind another one two =
    laws.one_fault text_machine lines_of bytes number other kind another
    (refused_is_fault bytes number kind one) (refused_is_fault bytes other another two)

pub input_has_no_fault : InputHasNoFault
input_has_no_fault bytes version set events number kind text refused =
    laws.never_both text_machine lines_of bytes _ number kind
    (text_is_read bytes version set events text) (refused_is_fault bytes number kind refused)

pub accepted_or_refused : AcceptedOrRefused
accepted_or_refused bytes = elim (laws.always_one text_machine lines_of bytes) [
  | inl (input, text) ↦ inl (input.version, input.set, input.events, read_is_text bytes input text)
  | inr (number, kind, refused) ↦ inr (number, kind, fault_is_refused bytes number kind refused)
]
