-- The lines of a head, the line `events`, and what follows.
use Rattle.std.proofs.Common.{◌≡◌, ℕ, zero, suc, ◌+◌, Bool, true, false, List, [], ◌∷◌, ◌++◌, get_or, Option, None, Some, refl, sym, ap}
use Rattle.std.proofs.Common.{◌∙◌, subst, inl, inr}
use Rattle.std.specs.Prelude.{if◌then◌else◌}
use Rattle.text_fields.specs.LineRule.{IsLineOutcome}
use Rattle.text_fields.specs.Lines.{fields_of}
use Rattle.text_fields.specs.Machine.{Leads, Fails, Leading}
use Rattle.kernel_trace.specs.Course.{CourseData, WindowData}
use Rattle.kernel_trace.specs.Import.{IsHead}
use Rattle.kernel_trace.specs.Reading.{IsCourse, IsSoundSoFar}
use Rattle.kernel_trace.specs.Survey.{SurveyData}
use Rattle.kernel_trace.specs.TraceFault.{trace_kind}
use Rattle.kernel_trace.specs.TraceText.{TaskLine, events_line, window_of, Progress, HeaderExpected, ProcessorsExpected, Listed, Tracing}
use Rattle.kernel_trace.specs.TraceText.{LineOutcome, without_tasks, with_listed, IsAddOutcome, window_outcome, IsListedOutcome}
use Rattle.kernel_trace.specs.TraceText.{IsHeadOutcome, IsLine}
use Rattle.kernel_trace.specs.declared.change.Standing.{Standing}
use Rattle.kernel_trace.specs.declared.change.Standing.TheVariants.{Unmentioned}
use Rattle.kernel_trace.specs.declared.fault.TraceKind.TheVariants.{BadHeader, BadProcessors, BadMask, TaskRefused, SamePid, BadWindow}
use Rattle.text_fields.specs.declared.kind.LineKind.TheVariants.{BadByte, LongLine}
use Rattle.kernel_trace.proofs.Decided.{same_next, fails_not_leads, line_valid}

-- ---- the lines of the head
-- what is known while the head is read
abbrev pub Begun : Progress → Type 0
Begun HeaderExpected = Unit {0}
Begun ProcessorsExpected = Unit {0}
Begun (Listed c) = IsHead c
Begun (Tracing c) = ⊥

-- what a line of the head leads to: more of the head, or the trace, after the line `events`
abbrev Goes : Progress → List (List ℕ) → Progress → Type 0
Goes p fields HeaderExpected = Unit {0}
Goes p fields ProcessorsExpected = Unit {0}
Goes p fields (Listed c) = IsHead c
Goes p fields (Tracing c) = (p ≡ Listed c) × (fields ≡ events_line)

goes_to : (p : Progress) (fields : List (List ℕ)) (next found : Progress)
    → ◌≡◌ {A = LineOutcome} (Leads next) (Leads found) → Goes p fields found → Goes p fields next
goes_to p fields next found e goes = subst (Goes p fields) (sym (same_next next found e)) goes

none_more : (standings : List Standing) (t : ℕ) → get_or (standings ++ Unmentioned ∷ []) t Unmentioned ≡ get_or standings t Unmentioned
none_more [] zero = refl
none_more [] (suc t) = refl
none_more (s ∷ standings) zero = refl
none_more (s ∷ standings) (suc t) = none_more standings t

head_more : (c : CourseData) (line : TaskLine) (mask : ℕ) → IsHead c → IsHead (with_listed c line mask)
head_more c line mask is = record {
  no_line = is.no_line;
  no_event = is.no_event;
  no_used = is.no_used;
  no_events = is.no_events;
  unmentioned = λ t. (none_more c.standings t ∙ is.unmentioned t);
}

head_window : (c : CourseData) (window : Option WindowData) → IsHead c → IsHead (record c { window = window })
head_window c window is = record {
  no_line = is.no_line;
  no_event = is.no_event;
  no_used = is.no_used;
  no_events = is.no_events;
  unmentioned = is.unmentioned;
}

module _ (c : CourseData) (fields : List (List ℕ)) (next : Progress) (is : IsHead c) where
  id_goes : (b : Bool) (line : TaskLine) (mask : ℕ)
      → ◌≡◌ {A = LineOutcome} (Leads next) (if b then Fails SamePid else Leads (Listed (with_listed c line mask)))
      → Goes (Listed c) fields next
  id_goes true line mask e = fails_not_leads next SamePid e
  id_goes false line mask e = goes_to (Listed c) fields next (Listed (with_listed c line mask)) e (head_more c line mask is)

  add_goes : (line : TaskLine) (mask : ℕ) → IsAddOutcome c line mask (Leads next) → Goes (Listed c) fields next
  add_goes line mask (inr refused) = fails_not_leads next (TaskRefused refused.0) refused.2
  add_goes line mask (inl (can, e)) = id_goes _ line mask e

  window_goes : (before window : Option WindowData) → ◌≡◌ {A = LineOutcome} (Leads next) (window_outcome c before window)
      → Goes (Listed c) fields next
  window_goes None (Some window) e =
      goes_to (Listed c) fields next (Listed (record c { window = Some window })) e (head_window c (Some window) is)
  window_goes None None e = fails_not_leads next BadWindow e
  window_goes (Some before) window e = fails_not_leads next BadWindow e

  listed_goes : IsListedOutcome c fields (Leads next) → Goes (Listed c) fields next
  listed_goes (inl (task, inl (line, form, inr bad))) = fails_not_leads next (BadMask bad.0) bad.2
  listed_goes (inl (task, inl (line, form, inl good))) = add_goes line good.0 good.2
  listed_goes (inl (task, inr none)) = fails_not_leads next _ none.1
  listed_goes (inr (other, inl (window, e))) = window_goes c.window (window_of fields) e
  listed_goes (inr (other, inr (neither, inl events))) = goes_to (Listed c) fields next (Tracing c) events.1 (refl, events.0)
  listed_goes (inr (other, inr (neither, inr none))) = fails_not_leads next _ none.1

none_without : (m : ℕ) → IsHead (without_tasks m)
none_without m = record { no_line = refl; no_event = refl; no_used = refl; no_events = refl; unmentioned = λ t. refl }

fields_go : (p : Progress) (fields : List (List ℕ)) (next : Progress) → Begun p → IsHeadOutcome p fields (Leads next) → Goes p fields next
fields_go HeaderExpected fields next begun (inl found) = goes_to HeaderExpected fields next ProcessorsExpected found.2 tt
fields_go HeaderExpected fields next begun (inr none) = fails_not_leads next BadHeader none.1
fields_go ProcessorsExpected fields next begun (inl found) =
    goes_to ProcessorsExpected fields next (Listed (without_tasks found.0)) found.2 (none_without found.0)
fields_go ProcessorsExpected fields next begun (inr none) = fails_not_leads next BadProcessors none.1
fields_go (Listed c) fields next begun comes = listed_goes c fields next begun comes
fields_go (Tracing c) fields next begun comes = absurd begun

begun_goes : (p : Progress) (fields : List (List ℕ)) → Begun p → Goes p fields p
begun_goes HeaderExpected fields begun = tt
begun_goes ProcessorsExpected fields begun = tt
begun_goes (Listed c) fields begun = begun
begun_goes (Tracing c) fields begun = absurd begun

read_goes : (p : Progress) (line : List ℕ) (next : Progress) → Begun p
    → IsLineOutcome 4096 true trace_kind IsHeadOutcome p line (Leads next) → Goes p (fields_of line) next
read_goes p line next begun (inl bad) = fails_not_leads next (trace_kind BadByte) bad.1
read_goes p line next begun (inr (inl long)) = fails_not_leads next (trace_kind LongLine) long.2
read_goes p line next begun (inr (inr (inl skipped))) = goes_to p (fields_of line) next p skipped.2 (begun_goes p (fields_of line) begun)
read_goes p line next begun (inr (inr (inr says))) = fields_go p (fields_of line) next begun says.2

line_goes : (look : SurveyData) (p : Progress) (line : List ℕ) (next : Progress) → Begun p → IsLine look p line (Leads next)
    → Goes p (fields_of line) next
line_goes look HeaderExpected line next begun comes = read_goes HeaderExpected line next begun comes
line_goes look ProcessorsExpected line next begun comes = read_goes ProcessorsExpected line next begun comes
line_goes look (Listed c) line next begun comes = read_goes (Listed c) line next begun comes
line_goes look (Tracing c) line next begun comes = absurd begun

-- ---- the head and the others
module _ (look : SurveyData) (Follows : ℕ → Progress → List (List ℕ) → Type 0) where
  -- the lines of a head, the line `events`, and lines of a trace that follow it
  pub record Split (p : Progress) (lines : List (List ℕ)) : Type 0 where
    pub heading : List (List ℕ)
    pub opening : List ℕ
    pub rest : List (List ℕ)
    pub head : CourseData
    pub number : ℕ
    pub order : lines ≡ heading ++ opening ∷ rest
    pub heads : Leading (IsLine look) p heading (Listed head)
    pub opens : fields_of opening ≡ events_line
    pub is_head : IsHead head
    pub valid : IsCourse head
    pub answer : Follows number (Tracing head) rest

  module _ (p : Progress) (line : List ℕ) (rest : List (List ℕ)) (number : ℕ) (begun : Begun p) where
    more_head : (next : Progress) → IsLine look p line (Leads next) → Split next rest → Split p (line ∷ rest)
    more_head next comes split = record {
      heading = line ∷ split.heading;
      opening = split.opening;
      rest = split.rest;
      head = split.head;
      number = split.number;
      order = ap (λ (more : List (List ℕ)). line ∷ more) split.order;
      heads = (next, comes, split.heads);
      opens = split.opens;
      is_head = split.is_head;
      valid = split.valid;
      answer = split.answer;
    }

    split_next : (next : Progress) → IsLine look p line (Leads next) → Goes p (fields_of line) next → IsSoundSoFar next
        → Follows (number + 1) next rest
        → (Begun next → Split next rest) → Split p (line ∷ rest)
    split_next HeaderExpected comes goes valid answer later = more_head HeaderExpected comes (later tt)
    split_next ProcessorsExpected comes goes valid answer later = more_head ProcessorsExpected comes (later tt)
    split_next (Listed c) comes goes valid answer later = more_head (Listed c) comes (later goes)
    split_next (Tracing c) comes goes valid answer later = record {
      heading = [];
      opening = line;
      rest = rest;
      head = c;
      number = number + 1;
      order = refl;
      heads = goes.0;
      opens = goes.1;
      is_head = subst Begun goes.0 begun;
      valid = valid.0;
      answer = answer;
    }

  -- a line of the head leads on, and the others follow it
  abbrev pub LedOn : ℕ → Progress → List ℕ → List (List ℕ) → Type 0
  LedOn number p line rest = (next : Progress) × IsLine look p line (Leads next) × Follows (number + 1) next rest

  module _ (never_ends : (number : ℕ) (p : Progress) → Begun p → Follows number p [] → ⊥)
      (leads : (number : ℕ) (p : Progress) (line : List ℕ) (rest : List (List ℕ)) → Begun p → Follows number p (line ∷ rest)
      → LedOn number p line rest) where
    pub head_split : (number : ℕ) (p : Progress) (lines : List (List ℕ)) → Begun p → IsSoundSoFar p → Follows number p lines → Split p lines
    head_split number p [] begun valid follows = absurd (never_ends number p begun follows)
    head_split number p (line ∷ rest) begun valid follows =
        let next = leads number p line rest begun follows in
        let valid_next : IsSoundSoFar next.0 = line_valid look p line next.0 valid next.1 in
        split_next p line rest number begun next.0 next.1 (line_goes look p line next.0 begun next.1) valid_next next.2
        (λ more. head_split (number + 1) next.0 rest more valid_next next.2)
