-- The input of the text of a trace is the import of that trace.
use Rattle.std.proofs.Common.{◌≡◌, ℕ, zero, suc, ◌+◌, ◌/◌, ◌%◌, ◌<◌, ◌≤◌, Bool, true, false, nat_lt, List, [], ◌∷◌, ◌++◌, length, take}
use Rattle.std.proofs.Common.{drop, Option, None, Some, refl, sym, ap, ◌∙◌, subst, inl, inr, arith, append_assoc, append-nil, lit<, lit≤}
use Rattle.std.specs.Prelude.{All, replicate, if◌then◌else◌}
use Rattle.std.specs.Option.{option_or}
use Rattle.std.proofs.lemmas.Bool.{cases_eq}
use Rattle.std.proofs.lemmas.List.{map-append, take-append-drop}
use Rattle.std.proofs.lemmas.List.Elements.{All-nil, All-cons, All-append, All-push, All-head, All-tail, All-weaker}
use Rattle.std.proofs.lemmas.Nat.{div-add-mod', le-div}
use Rattle.std.proofs.Math.Nat.{mod-lt}
use Rattle.task_set.specs.Event.{HasUnits}
use Rattle.task_set.specs.declared.event.Event.TheVariants.{Arrive, Depart, Tick}
use Rattle.trace_reader.specs.Input.{InputData}
use Rattle.trace_reader.specs.declared.posted.Posted.{Posted}
use Rattle.text_fields.specs.Lines.{lines_of, fields_of}
use Rattle.text_fields.specs.Machine.{Outcome, Leads, Fails, Answer, IsText, Refuses, answer_at_end, IsAnswer}
use Rattle.kernel_trace.specs.Course.{CourseData, WindowData, mentions, is_unseen, is_backward, is_in_window, on_first_stream, last_tick}
use Rattle.kernel_trace.specs.Course.{ticks, between, passed, written, event_of, after_mention, after_mentions, agrees, says_ready}
use Rattle.kernel_trace.specs.Course.{standing_of, names_task}
use Rattle.kernel_trace.specs.Import.{after_said, course_after, mentions_said, AllChange, all_units, ReadyChange, ready_changes}
use Rattle.kernel_trace.specs.Import.{changes_said, changes_in, changes_made, times_of, time_said, used_times, first_time, last_time, Lasts}
use Rattle.kernel_trace.specs.Import.{told_by, all_told, IsHead, IsWrittenBy, IsImport, ImportIsFaithful}
use Rattle.kernel_trace.specs.Reading.{AreTasks}
use Rattle.kernel_trace.specs.Survey.{SurveyData, survey_of, is_gap}
use Rattle.kernel_trace.specs.TraceLine.{Said, Nothing, LostEvents, Malformed, Happened, said_by}
use Rattle.kernel_trace.specs.TraceText.{Progress, HeaderExpected, ProcessorsExpected, Listed, Tracing, LineOutcome, counted_outcome}
use Rattle.kernel_trace.specs.TraceText.{used_outcome, timed_outcome, said_outcome, IsLine, input_of, IsEndOutcome}
use Rattle.kernel_trace.specs.declared.change.Change.{Change}
use Rattle.trace_passages.specs.declared.passage.Readiness.{Readiness}
use Rattle.kernel_trace.specs.declared.fault.TraceKind.{TraceKind}
use Rattle.kernel_trace.specs.declared.fault.TraceKind.TheVariants.{Backward, Lost, BadForm, Unseen, ManyEvents, NoEvents, Overwritten}
use Rattle.kernel_trace.specs.declared.fault.TraceKind.TheVariants.{NothingSaid}
use Rattle.kernel_trace.proofs.Courses.{step_by, last_some, million}
use Rattle.kernel_trace.proofs.Decided.{same_next, fails_not_leads, not_above}
use Rattle.kernel_trace.proofs.HeadSplit.{Begun, Split, LedOn, head_split}
use Rattle.kernel_trace.proofs.Imports.{fold_append, units_append, written_units, change_written, Tells, step_tells, step_length, Follows}
use Rattle.kernel_trace.proofs.Imports.{known_tasks, said_follows, lines_follow, head_follows}

-- ---- the head
-- the answer to some lines is this input
abbrev IsRest : SurveyData → InputData → ℕ → Progress → List (List ℕ) → Type 0
IsRest look input number p lines = IsAnswer (IsLine look) IsEndOutcome number p lines (IsText input)

text_not_refused : {A : Type 0} (input : InputData) (number : ℕ) (kind : TraceKind)
    → ◌≡◌ {A = Answer InputData TraceKind} (IsText input) (Refuses number kind) → A
text_not_refused input number kind e = cc

module _ (look : SurveyData) (input : InputData) where
  no_end : (number : ℕ) (p : Progress) → Begun p → IsRest look input number p [] → ⊥
  no_end number HeaderExpected begun (last, ends, e) = text_not_refused input number NoEvents (e ∙ ap (answer_at_end number) ends)
  no_end number ProcessorsExpected begun (last, ends, e) = text_not_refused input number NoEvents (e ∙ ap (answer_at_end number) ends)
  no_end number (Listed c) begun (last, ends, e) = text_not_refused input number NoEvents (e ∙ ap (answer_at_end number) ends)
  no_end number (Tracing c) begun follows = absurd begun

  line_leads : (number : ℕ) (p : Progress) (line : List ℕ) (rest : List (List ℕ)) → Begun p → IsRest look input number p (line ∷ rest)
      → LedOn look (IsRest look input) number p line rest
  line_leads number p line rest begun (inl (kind, comes, e)) = text_not_refused input number kind e
  line_leads number p line rest begun (inr led) = led

-- ---- the lines of the trace lead on
-- one time is at most another, where there is one
abbrev AtMost : Option ℕ → Option ℕ → Type 0
AtMost None later = Unit {0}
AtMost (Some time) None = ⊥
AtMost (Some time) (Some later) = time ≤ later

most_over : (one two three : Option ℕ) → AtMost one two → AtMost two three → AtMost one three
most_over None two three first second = tt
most_over (Some one) None three first second = absurd first
most_over (Some one) (Some two) None first second = absurd second
most_over (Some one) (Some two) (Some three) first second = omega arith

most_same : (time : Option ℕ) → AtMost time time
most_same None = tt
most_same (Some time) = omega arith

-- a line of the scheduler is not before the last one
abbrev Forward : CourseData → Said → Type 0
Forward c Nothing = Unit {0}
Forward c LostEvents = Unit {0}
Forward c Malformed = Unit {0}
Forward c (Happened time change) = AtMost c.last (Some time)

not_backward : (last : Option ℕ) (time : ℕ) → is_backward last time ≡ false → AtMost last (Some time)
not_backward None time e = tt
not_backward (Some last) time e = not_above time last e

counted_leads : (b : Bool) (c : CourseData) (next : Progress)
    → ◌≡◌ {A = LineOutcome} (Leads next) (if b then Fails ManyEvents else Leads (Tracing c)) → next ≡ Tracing c
counted_leads true c next e = fails_not_leads next ManyEvents e
counted_leads false c next e = same_next next (Tracing c) e

used_leads : (b : Bool) (c : CourseData) (next : Progress)
    → ◌≡◌ {A = LineOutcome} (Leads next) (if b then Fails Unseen else counted_outcome c) → next ≡ Tracing c
used_leads true c next e = fails_not_leads next Unseen e
used_leads false c next e = counted_leads (nat_lt 20000 (length (written c))) c next e

timed_leads : (b : Bool) (c : CourseData) (time : ℕ) (change : Change) (next : Progress)
    → ◌≡◌ {A = LineOutcome} (Leads next) (if b
    then used_outcome (record c { last = Some time; used = Some time }) change
    else Leads (Tracing (record c { last = Some time })))
    → next ≡ Tracing (if b then after_mentions (record c { last = Some time; used = Some time }) (mentions c.ids change)
    else record c { last = Some time })
timed_leads true c time change next e =
    used_leads (is_unseen c.standings c.ids change)
    (after_mentions (record c { last = Some time; used = Some time }) (mentions c.ids change)) next e
timed_leads false c time change next e = same_next next (Tracing (record c { last = Some time })) e

said_leads : (c : CourseData) (said : Said) (next : Progress) → ◌≡◌ {A = LineOutcome} (Leads next) (said_outcome c said)
    → (next ≡ Tracing (after_said c said)) × Forward c said
said_leads c Nothing next e = (same_next next (Tracing c) e, tt)
said_leads c LostEvents next e = fails_not_leads next Lost e
said_leads c Malformed next e = fails_not_leads next BadForm e
said_leads c (Happened time change) next e = by (is_backward c.last time) refl e
  where
    by : (b : Bool) → is_backward c.last time ≡ b
        → ◌≡◌ {A = LineOutcome} (Leads next) (if b then Fails Backward else timed_outcome c time change)
        → (next ≡ Tracing (after_said c (Happened time change))) × Forward c (Happened time change)
    by true is e = fails_not_leads next Backward e
    by false is e = (timed_leads (is_in_window c.window time) c time change next e, not_backward c.last time is)

-- no line is before the one before it
abbrev AllForward : Bool → CourseData → List (List ℕ) → Type 0
AllForward waking c [] = Unit {0}
AllForward waking c (line ∷ rest) =
    Forward c (said_by waking (fields_of line)) × AllForward waking (after_said c (said_by waking (fields_of line))) rest

-- a line that leads on has no gap before it
whole_leads : (b : Bool) (c : CourseData) (said : Said) (next : Progress)
    → ◌≡◌ {A = LineOutcome} (Leads next) (if b then Fails Overwritten else said_outcome c said)
    → ◌≡◌ {A = LineOutcome} (Leads next) (said_outcome c said)
whole_leads true c said next e = fails_not_leads next Overwritten e
whole_leads false c said next e = e

text_input : (c : CourseData) (input : InputData) (number : ℕ) (last : Outcome InputData TraceKind) → last ≡ Leads (input_of c)
    → ◌≡◌ {A = Answer InputData TraceKind} (IsText input) (answer_at_end number last) → input ≡ input_of c
text_input c input number last ends e = same (e ∙ ap (answer_at_end number) ends)
  where
    same : ◌≡◌ {A = Answer InputData TraceKind} (IsText input) (IsText (input_of c)) → input ≡ input_of c
    same e = cc

-- the end of a trace of an input
ended : (b : Bool) (c : CourseData) (input : InputData) (number : ℕ) (last : Outcome InputData TraceKind)
    → last ≡ (if b then Leads (input_of c) else Fails NothingSaid)
    → ◌≡◌ {A = Answer InputData TraceKind} (IsText input) (answer_at_end number last) → input ≡ input_of c
ended true c input number last ends e = text_input c input number last ends e
ended false c input number last ends e = text_not_refused input number NothingSaid (e ∙ ap (answer_at_end number) ends)

trace_leads : (look : SurveyData) (number : ℕ) (c : CourseData) (lines : List (List ℕ)) (input : InputData)
    → IsRest look input number (Tracing c) lines
    → AllForward look.waking c lines × (input ≡ input_of (course_after look.waking c lines))
trace_leads look number c [] input (last, ends, e) = (tt, ended (names_task c.standings) c input number last ends e)
trace_leads look number c (line ∷ rest) input (inl (kind, comes, e)) = text_not_refused input number kind e
trace_leads look number c (line ∷ rest) input (inr (next, comes, answer)) =
    let said : Said = said_by look.waking (fields_of line) in
    let leads = said_leads c said next (whole_leads (is_gap look c.window (fields_of line)) c said next comes) in
    let later = trace_leads look (number + 1) (after_said c said) rest input
    (subst (λ (p : Progress). IsRest look input (number + 1) p rest) leads.0 answer) in
    ((leads.1, later.0), later.1)

-- the first lines of some lines
forward_first : (waking : Bool) (c : CourseData) (first rest : List (List ℕ)) → AllForward waking c (first ++ rest)
    → AllForward waking c first
forward_first waking c [] rest all = tt
forward_first waking c (line ∷ first) rest all =
    (all.0, forward_first waking (after_said c (said_by waking (fields_of line))) first rest all.1)

-- ---- times
last_append : (times : List ℕ) (time : ℕ) → last_time (times ++ time ∷ []) ≡ Some time
last_append [] time = refl
last_append (first ∷ times) time = ap (λ (last : Option ℕ). option_or last (Some first)) (last_append times time)

whole_less : (one two : ℕ) → one ≤ two → one / 1000 ≤ two / 1000
whole_less one two most =
    let parts = div-add-mod' one 1000 in
    le-div (one / 1000) two 1000 (lit< tt) (omega (arith, parts, most))

lasts_some : (first clock : ℕ) (used : Option ℕ) (units : ℕ) → Lasts (Some first) (Some clock) units → AtMost (Some clock) used
    → Lasts (Some first) used (units + between (Some clock) used)
lasts_some first clock None units lasts most = absurd most
lasts_some first clock (Some used) units lasts most = let whole = whole_less clock used most in omega (arith, lasts, whole)

lasts_more : (times : List ℕ) (used : Option ℕ) (units : ℕ) → Lasts (first_time times) (last_time times) units
    → AtMost (last_time times) used
    → Lasts (first_time times) used (units + between (last_time times) used)
lasts_more [] used units lasts most = omega (arith, lasts)
lasts_more (time ∷ times) used units lasts most = by (last_time times) lasts most
  where
    by : (last : Option ℕ) → Lasts (Some time) (option_or last (Some time)) units → AtMost (option_or last (Some time)) used
        → Lasts (Some time) used (units + between (option_or last (Some time)) used)
    by None lasts most = lasts_some time time used units lasts most
    by (Some last) lasts most = lasts_some time last used units lasts most

lasts_next : (times : List ℕ) (time units : ℕ) → Lasts (first_time times) (last_time times) units → AtMost (last_time times) (Some time)
    → Lasts (first_time (times ++ time ∷ [])) (Some time) (units + between (last_time times) (Some time))
lasts_next [] time units lasts most = omega (arith, lasts)
lasts_next (first ∷ times) time units lasts most = lasts_more (first ∷ times) (Some time) units lasts most

-- ---- ticks
abbrev IsAlone : Posted → Type 0
IsAlone posted = (posted.stream ≡ 0) × HasUnits posted.event

alone_full : (count : ℕ) → All IsAlone (replicate count (on_first_stream (Tick 1000000)))
alone_full zero = All-nil IsAlone
alone_full (suc count) =
    All-cons IsAlone (on_first_stream (Tick 1000000)) (replicate count (on_first_stream (Tick 1000000))) (refl, (lit≤ tt, lit≤ tt))
    (alone_full count)

alone_last : (units : ℕ) → units < 1000000 → All IsAlone (last_tick units)
alone_last units below = elim (cases_eq units 0) [
  | inl none ↦ subst (λ (n : ℕ). All IsAlone (last_tick n)) (sym none) (All-nil IsAlone)
  | inr some ↦
      subst (All IsAlone) (sym (last_some units some))
      (All-cons IsAlone (on_first_stream (Tick units)) [] (refl, (omega (arith, some), omega arith)) (All-nil IsAlone))
]

alone_ticks : (units : ℕ) → All IsAlone (ticks units)
unfolding ticks
alone_ticks units =
    All-append IsAlone (replicate (units / 1000000) (on_first_stream (Tick 1000000))) (last_tick (units % 1000000))
    (alone_full (units / 1000000)) (alone_last (units % 1000000) (mod-lt units million))

told_append : (xs ys : List Posted) → all_told (xs ++ ys) ≡ all_told xs ++ all_told ys
told_append [] ys = refl
told_append (x ∷ xs) ys =
    ap (λ (more : List Readiness). told_by x.event ++ more) (told_append xs ys)
    ∙ sym (append_assoc (told_by x.event) (all_told xs) (all_told ys))

told_full : (count : ℕ) → all_told (replicate count (on_first_stream (Tick 1000000))) ≡ []
told_full zero = refl
told_full (suc count) = told_full count

told_last : (units : ℕ) → all_told (last_tick units) ≡ []
told_last units = elim (cases_eq units 0) [
  | inl none ↦ ap (λ (n : ℕ). all_told (last_tick n)) none
  | inr some ↦ ap all_told (last_some units some)
]

told_ticks : (units : ℕ) → all_told (ticks units) ≡ []
unfolding ticks
told_ticks units =
    told_append (replicate (units / 1000000) (on_first_stream (Tick 1000000))) (last_tick (units % 1000000))
    ∙ ap (λ (more : List Readiness). all_told (replicate (units / 1000000) (on_first_stream (Tick 1000000))) ++ more)
    (told_last (units % 1000000))
    ∙ append-nil (all_told (replicate (units / 1000000) (on_first_stream (Tick 1000000))))
    ∙ told_full (units / 1000000)

told_written : (c : CourseData) → all_told (written c) ≡ all_told c.events
told_written c =
    told_append c.events (ticks (passed c))
    ∙ ap (λ (more : List Readiness). all_told c.events ++ more) (told_ticks (passed c))
    ∙ append-nil (all_told c.events)

told_event : (m : Readiness) → told_by (event_of m) ≡ m ∷ []
told_event m = by m.is_in
  where
    by : (b : Bool) → told_by (if b then Arrive m.task else Depart m.task) ≡ record { task = m.task; is_in = b } ∷ []
    by true = refl
    by false = refl

units_event : (m : Readiness) → all_units (on_first_stream (event_of m) ∷ []) ≡ 0
units_event m = by m.is_in
  where
    by : (b : Bool) → all_units (on_first_stream (if b then Arrive m.task else Depart m.task) ∷ []) ≡ 0
    by true = refl
    by false = refl

event_alone : (m : Readiness) → IsAlone (on_first_stream (event_of m))
event_alone m = by m.is_in
  where
    by : (b : Bool) → IsAlone (on_first_stream (if b then Arrive m.task else Depart m.task))
    by true = (refl, tt)
    by false = (refl, tt)

-- ---- what is known beside the changes and the times of the used lines
record Timed (c : CourseData) (changes : List ReadyChange) (times : List ℕ) : Type 0 where
  told : all_told c.events ≡ changes_made changes
  clock : c.clock ≡ last_time (times_of changes)
  used : c.used ≡ last_time times
  lasts : Lasts (first_time (times_of changes)) (last_time (times_of changes)) (all_units c.events)
  since : AtMost c.clock c.used
  before : AtMost c.used c.last
  alone : All IsAlone c.events

module _ (c : CourseData) (m : Readiness) (changes : List ReadyChange) (times : List ℕ) (time : ℕ)
    (now : c.used ≡ Some time) (timed : Timed c changes times) where
  abbrev the_change : ReadyChange
  the_change = record { time = time; mention = m }

  times_more : times_of (changes ++ the_change ∷ []) ≡ times_of changes ++ time ∷ []
  times_more = map-append (λ (change : ReadyChange). change.time) changes (the_change ∷ [])

  passed_is : passed c ≡ between (last_time (times_of changes)) (Some time)
  passed_is = ap (λ (clock : Option ℕ). between clock c.used) timed.clock ∙ ap (between (last_time (times_of changes))) now

  units_more : all_units (written c ++ on_first_stream (event_of m) ∷ []) ≡ all_units c.events
      + between (last_time (times_of changes)) (Some time)
  units_more =
      let parts = units_append (written c) (on_first_stream (event_of m) ∷ []) in
      let whole = written_units c in
      let event = units_event m in
      let some = passed_is in
      omega (arith, parts, whole, event, some)

  lasts_then : Lasts (first_time (times_of (changes ++ the_change ∷ []))) (last_time (times_of (changes ++ the_change ∷ [])))
      (all_units (written c ++ on_first_stream (event_of m) ∷ []))
  lasts_then =
      let since : AtMost (last_time (times_of changes)) (Some time) =
      subst (λ (clock : Option ℕ). AtMost clock (Some time)) timed.clock (subst (AtMost c.clock) now timed.since) in
      let next = lasts_next (times_of changes) time (all_units c.events) timed.lasts since in
      let P : List ℕ → Option ℕ → ℕ → Type 0 = λ all last units. Lasts (first_time all) last units in
      subst (λ (units : ℕ). P (times_of (changes ++ the_change ∷ [])) (last_time (times_of (changes ++ the_change ∷ []))) units)
      (sym units_more)
      (subst (λ (all : List ℕ). P all (last_time all) (all_units c.events + between (last_time (times_of changes)) (Some time)))
      (sym times_more)
      (subst (λ (last : Option ℕ). P (times_of changes ++ time ∷ []) last
      (all_units c.events + between (last_time (times_of changes)) (Some time)))
      (sym (last_append (times_of changes) time)) next))

  told_then : all_told (written c ++ on_first_stream (event_of m) ∷ []) ≡ changes_made (changes ++ the_change ∷ [])
  told_then =
      told_append (written c) (on_first_stream (event_of m) ∷ [])
      ∙ ap (λ (more : List Readiness). more ++ all_told (on_first_stream (event_of m) ∷ [])) (told_written c ∙ timed.told)
      ∙ ap (λ (more : List Readiness). changes_made changes ++ more) (append-nil (told_by (event_of m)) ∙ told_event m)
      ∙ sym (map-append (λ (change : ReadyChange). change.mention) changes (the_change ∷ []))

  step_timed : (b : Bool) → Timed (step_by b c m) (if b then changes else changes ++ the_change ∷ []) times
  step_timed true = record {
    told = timed.told;
    clock = timed.clock;
    used = timed.used;
    lasts = timed.lasts;
    since = timed.since;
    before = timed.before;
    alone = timed.alone;
  }
  step_timed false = record {
    told = told_then;
    clock = now ∙ sym (last_append (times_of changes) time) ∙ ap last_time (sym times_more);
    used = timed.used;
    lasts = lasts_then;
    since = most_same c.used;
    before = timed.before;
    alone =
        All-push IsAlone (written c) (on_first_stream (event_of m))
        (All-append IsAlone c.events (ticks (passed c)) timed.alone (alone_ticks (passed c))) (event_alone m);
  }

-- ---- the mentions of a line, one after another
module _ (c : CourseData) (ms : List Readiness) (m : Readiness) (more : List Readiness) (changes : List ReadyChange) (times : List ℕ)
    (time : ℕ)
    (now : c.used ≡ Some time) (tells : Tells c ms) (within : m.task < length c.standings) (tasks : AreTasks (length c.standings) more)
    (timed : Timed c changes times)
    (later : (d : CourseData) (found : List ReadyChange) → d.used ≡ Some time → Tells d (ms ++ m ∷ []) → AreTasks (length d.standings) more
    → Timed d found times → Timed (after_mentions d more) (found ++ ready_changes time (ms ++ m ∷ []) more) times) where
  tasks_then : (b : Bool) → AreTasks (length (step_by b c m).standings) more
  tasks_then b = subst (λ (n : ℕ). AreTasks n more) (sym (step_length b c m)) tasks

  first_timed : (b : Bool) → agrees (says_ready (standing_of c.standings m.task)) m.is_in ≡ b
      → Timed (after_mentions (step_by b c m) more)
      (changes ++ (if b
      then ready_changes time (ms ++ m ∷ []) more
      else record { time = time; mention = m } ∷ ready_changes time (ms ++ m ∷ []) more)) times
  first_timed true same =
      later (step_by true c m) changes now (step_tells c ms m tells within true same) (tasks_then true)
      (step_timed c m changes times time now timed true)
  first_timed false other =
      let change : ReadyChange = record { time = time; mention = m } in
      let next = ready_changes time (ms ++ m ∷ []) more in
      subst (λ (all : List ReadyChange). Timed (after_mentions (step_by false c m) more) all times)
      (append_assoc changes (change ∷ []) next)
      (later (step_by false c m) (changes ++ change ∷ []) now (step_tells c ms m tells within false other) (tasks_then false)
      (step_timed c m changes times time now timed false))

  by_mentions : Timed (after_mentions c (m ∷ more)) (changes ++ ready_changes time ms (m ∷ more)) times
  by_mentions =
      let next = ready_changes time (ms ++ m ∷ []) more in
      let found : Bool → List ReadyChange = λ before. if agrees before m.is_in then next else record { time = time; mention = m } ∷ next in
      subst (λ (before : Bool). Timed (after_mentions c (m ∷ more)) (changes ++ found before) times) (sym (tells.said m.task))
      (first_timed (agrees (says_ready (standing_of c.standings m.task)) m.is_in) refl)

mentions_timed : (c : CourseData) (ms more : List Readiness) (changes : List ReadyChange) (times : List ℕ) (time : ℕ)
    → c.used ≡ Some time → Tells c ms → AreTasks (length c.standings) more → Timed c changes times
    → Timed (after_mentions c more) (changes ++ ready_changes time ms more) times
mentions_timed c ms [] changes times time now tells tasks timed =
    subst (λ (all : List ReadyChange). Timed c all times) (sym (append-nil changes)) timed
mentions_timed c ms (m ∷ more) changes times time now tells tasks timed =
    by_mentions c ms m more changes times time now tells (All-head (λ (m : Readiness). m.task < length c.standings) m more tasks)
    (All-tail (λ (m : Readiness). m.task < length c.standings) m more tasks) timed
    (λ d found is tells tasks timed. mentions_timed d (ms ++ m ∷ []) more found times time is tells tasks timed)

-- ---- lines, one after another
module _ (waking : Bool) (head : CourseData) (one_each : length head.standings ≡ length head.ids) where
  timed_line : (b : Bool) (c : CourseData) (ms : List Readiness) (changes : List ReadyChange) (times : List ℕ) (time : ℕ) (change : Change)
      → Follows head c ms → AtMost c.last (Some time) → Timed c changes times
      → Timed (if b then after_mentions (record c { last = Some time; used = Some time }) (mentions c.ids change)
      else record c { last = Some time })
      (changes ++ ready_changes time ms (if b then mentions c.ids change else [])) (times ++ (if b then time ∷ [] else []))
  timed_line true c ms changes times time change follows forward timed =
      let now : CourseData = record c { last = Some time; used = Some time } in
      let tells = follows.tells in
      let tells_now : Tells now ms = record { ready = tells.ready; said = tells.said; changing = tells.changing } in
      let timed_now : Timed now changes (times ++ time ∷ []) = record {
        told = timed.told;
        clock = timed.clock;
        used = sym (last_append times time);
        lasts = timed.lasts;
        since = most_over c.clock c.used (Some time) timed.since (most_over c.used c.last (Some time) timed.before forward);
        before = most_same (Some time);
        alone = timed.alone;
      } in
      mentions_timed now ms (mentions c.ids change) changes (times ++ time ∷ []) time refl tells_now
      (known_tasks waking head one_each c change follows.stays) timed_now
  timed_line false c ms changes times time change follows forward timed =
      let later : CourseData = record c { last = Some time } in
      let timed_now : Timed later changes times = record {
        told = timed.told;
        clock = timed.clock;
        used = timed.used;
        lasts = timed.lasts;
        since = timed.since;
        before = most_over c.used c.last (Some time) timed.before forward;
        alone = timed.alone;
      } in
      subst (λ (all : List ReadyChange). Timed later all (times ++ [])) (sym (append-nil changes))
      (subst (λ (all : List ℕ). Timed later changes all) (sym (append-nil times)) timed_now)

  same_timed : (c : CourseData) (changes : List ReadyChange) (times : List ℕ) → Timed c changes times
      → Timed c (changes ++ []) (times ++ [])
  same_timed c changes times timed =
      subst (λ (all : List ReadyChange). Timed c all (times ++ [])) (sym (append-nil changes))
      (subst (λ (all : List ℕ). Timed c changes all) (sym (append-nil times)) timed)

  said_timed : (c : CourseData) (ms : List Readiness) (changes : List ReadyChange) (times : List ℕ) (said : Said)
      → Follows head c ms → Forward c said → Timed c changes times
      → Timed (after_said c said) (changes ++ changes_said head.ids head.window ms said) (times ++ time_said head.window said)
  said_timed c ms changes times Nothing follows forward timed = same_timed c changes times timed
  said_timed c ms changes times LostEvents follows forward timed = same_timed c changes times timed
  said_timed c ms changes times Malformed follows forward timed = same_timed c changes times timed
  said_timed c ms changes times (Happened time change) follows forward timed =
      let stays = follows.stays in
      let said : Said = Happened time change in
      let P : List ℕ → Option WindowData → Type 0 =
      λ ids window. Timed (after_said c said) (changes ++ changes_said ids window ms said) (times ++ time_said window said) in
      subst (λ (window : Option WindowData). P head.ids window) stays.window
      (subst (λ (ids : List ℕ). P ids c.window) stays.ids
      (timed_line (is_in_window c.window time) c ms changes times time change follows forward timed))

  lines_timed : (c : CourseData) (ms : List Readiness) (changes : List ReadyChange) (times : List ℕ) (lines : List (List ℕ))
      → Follows head c ms → AllForward waking c lines → Timed c changes times
      → Timed (course_after waking c lines) (changes ++ changes_in waking head.ids head.window ms lines)
      (times ++ used_times waking head.window lines)
  lines_timed c ms changes times [] follows forward timed = same_timed c changes times timed
  lines_timed c ms changes times (line ∷ rest) follows forward timed =
      let said : Said = said_by waking (fields_of line) in
      let made = changes_said head.ids head.window ms said in
      let used = time_said head.window said in
      let later = ms ++ mentions_said head.ids head.window said in
      let next = lines_timed (after_said c said) later (changes ++ made) (times ++ used) rest
      (said_follows waking head one_each c ms said follows) forward.1 (said_timed c ms changes times said follows forward.0 timed) in
      subst (λ (all : List ReadyChange). Timed (course_after waking c (line ∷ rest)) all
      (times ++ (used ++ used_times waking head.window rest)))
      (append_assoc changes made (changes_in waking head.ids head.window later rest))
      (subst (Timed (course_after waking c (line ∷ rest)) ((changes ++ made) ++ changes_in waking head.ids head.window later rest))
      (append_assoc times used (used_times waking head.window rest)) next)

  head_timed : IsHead head → Timed head [] []
  head_timed is = record {
    told = ap all_told is.no_events;
    clock = is.no_event;
    used = is.no_used;
    lasts = ap all_units is.no_events;
    since = subst (λ (clock : Option ℕ). AtMost clock head.used) (sym is.no_event) tt;
    before = subst (λ (used : Option ℕ). AtMost used head.last) (sym is.no_used) tt;
    alone = subst (All IsAlone) (sym is.no_events) (All-nil IsAlone);
  }

  trace_timed : IsHead head → (lines : List (List ℕ)) → AllForward waking head lines
      → Timed (course_after waking head lines) (changes_in waking head.ids head.window [] lines) (used_times waking head.window lines)
  trace_timed is lines forward = lines_timed head [] [] [] lines (head_follows waking head one_each is) forward (head_timed is)

-- ---- events only come after others
abbrev Extends : CourseData → CourseData → Type 0
Extends c d = (more : List Posted) × (d.events ≡ c.events ++ more)

extends_over : (c d e : CourseData) → Extends c d → Extends d e → Extends c e
extends_over c d e one two =
    (one.0 ++ two.0, two.1 ∙ ap (λ (events : List Posted). events ++ two.0) one.1 ∙ append_assoc c.events one.0 two.0)

step_extends : (b : Bool) (c : CourseData) (m : Readiness) → Extends c (step_by b c m)
step_extends true c m = ([], sym (append-nil c.events))
step_extends false c m =
    (ticks (passed c) ++ on_first_stream (event_of m) ∷ [], append_assoc c.events (ticks (passed c)) (on_first_stream (event_of m) ∷ []))

mentions_extend : (c : CourseData) (ms : List Readiness) → Extends c (after_mentions c ms)
mentions_extend c [] = ([], sym (append-nil c.events))
mentions_extend c (m ∷ ms) =
    extends_over c (after_mention c m) (after_mentions c (m ∷ ms))
    (step_extends (agrees (says_ready (standing_of c.standings m.task)) m.is_in) c m) (mentions_extend (after_mention c m) ms)

said_extends : (c : CourseData) (said : Said) → Extends c (after_said c said)
said_extends c Nothing = ([], sym (append-nil c.events))
said_extends c LostEvents = ([], sym (append-nil c.events))
said_extends c Malformed = ([], sym (append-nil c.events))
said_extends c (Happened time change) = by (is_in_window c.window time)
  where
    by : (b : Bool) → Extends c (if b
        then after_mentions (record c { last = Some time; used = Some time }) (mentions c.ids change)
        else record c { last = Some time })
    by true = mentions_extend (record c { last = Some time; used = Some time }) (mentions c.ids change)
    by false = ([], sym (append-nil c.events))

lines_extend : (waking : Bool) (c : CourseData) (lines : List (List ℕ)) → Extends c (course_after waking c lines)
lines_extend waking c [] = ([], sym (append-nil c.events))
lines_extend waking c (line ∷ rest) =
    let said : Said = said_by waking (fields_of line) in
    extends_over c (after_said c said) (course_after waking c (line ∷ rest)) (said_extends c said)
    (lines_extend waking (after_said c said) rest)

-- ---- the import
module _ (waking : Bool) (head : CourseData) (one_each : length head.standings ≡ length head.ids) (is : IsHead head) where
  -- the first lines have written the first events
  first_written : (first rest : List (List ℕ)) → AllForward waking head (first ++ rest)
      → IsWrittenBy waking head.ids head.window first (written (course_after waking head (first ++ rest)))
  first_written first rest forward =
      let c : CourseData = course_after waking head first in
      let all = lines_follow waking head one_each head [] first (head_follows waking head one_each is) in
      let tells = all.tells in
      let timed = trace_timed waking head one_each is first (forward_first waking head first rest forward) in
      let whole : course_after waking head (first ++ rest) ≡ course_after waking c rest =
      fold_append (λ (known : CourseData) (line : List ℕ). after_said known (said_by waking (fields_of line))) head first rest in
      let more = lines_extend waking c rest in
      let last = ticks (passed (course_after waking c rest)) in
      record {
        events = c.events;
        later = more.0 ++ last;
        order = ap written whole ∙ ap (λ (events : List Posted). events ++ last) more.1 ∙ append_assoc c.events more.0 last;
        changes = timed.told;
        ready = λ t. (tells.ready t ∙ sym (tells.said t));
        time = timed.lasts;
      }

  each_written : (lines : List (List ℕ)) → AllForward waking head lines → (n : ℕ)
      → IsWrittenBy waking head.ids head.window (take n lines) (written (course_after waking head lines))
  each_written lines forward n =
      let whole = take-append-drop n lines in
      subst (λ (all : List (List ℕ)). IsWrittenBy waking head.ids head.window (take n lines) (written (course_after waking head all))) whole
      (first_written (take n lines) (drop n lines) (subst (AllForward waking head) (sym whole) forward))

  whole_lasts : (lines : List (List ℕ)) → AllForward waking head lines
      → (let times = times_of (changes_in waking head.ids head.window [] lines) in
      Lasts (first_time times) (last_time (used_times waking head.window lines)) (all_units (written (course_after waking head lines))))
  whole_lasts lines forward =
      let c : CourseData = course_after waking head lines in
      let timed = trace_timed waking head one_each is lines forward in
      let times = times_of (changes_in waking head.ids head.window [] lines) in
      let since : AtMost (last_time times) c.used = subst (λ (clock : Option ℕ). AtMost clock c.used) timed.clock timed.since in
      let lasts = lasts_more times c.used (all_units c.events) timed.lasts since in
      let passes : passed c ≡ between (last_time times) c.used = ap (λ (clock : Option ℕ). between clock c.used) timed.clock in
      let units : all_units (written c) ≡ all_units c.events + between (last_time times) c.used =
      written_units c ∙ ap (λ (n : ℕ). all_units c.events + n) passes in
      subst (λ (used : Option ℕ). Lasts (first_time times) used (all_units (written c))) timed.used
      (subst (λ (n : ℕ). Lasts (first_time times) c.used n) (sym units) lasts)

  written_alone : (lines : List (List ℕ)) → AllForward waking head lines → All IsAlone (written (course_after waking head lines))
  written_alone lines forward =
      let c : CourseData = course_after waking head lines in
      let timed = trace_timed waking head one_each is lines forward in
      All-append IsAlone c.events (ticks (passed c)) timed.alone (alone_ticks (passed c))

  all_change : (lines : List (List ℕ)) → AllChange [] (written (course_after waking head lines))
  all_change lines =
      let all = lines_follow waking head one_each head [] lines (head_follows waking head one_each is) in
      let tells = all.tells in
      change_written (course_after waking head lines) tells.changing

  same_set : (lines : List (List ℕ)) → (course_after waking head lines).set ≡ head.set
  same_set lines =
      let all = lines_follow waking head one_each head [] lines (head_follows waking head one_each is) in
      let stays = all.stays in
      stays.set

of_split : (bytes : List ℕ) (input : InputData)
    → (let look = survey_of (lines_of bytes) in Split look (IsRest look input) HeaderExpected (lines_of bytes)) → IsImport bytes input
of_split bytes input split =
    let look : SurveyData = survey_of (lines_of bytes) in
    let waking : Bool = look.waking in
    let head : CourseData = split.head in
    let valid = split.valid in
    let one_each : length head.standings ≡ length head.ids = valid.standings ∙ sym valid.ids in
    let leads = trace_leads look split.number head split.rest input split.answer in
    let forward = leads.0 in
    let events : input.events ≡ written (course_after waking head split.rest) = ap (λ (input : InputData). input.events) leads.1 in
    let alone = subst (All IsAlone) (sym events) (written_alone waking head one_each split.is_head split.rest forward) in
    record {
      look = look;
      surveyed = refl;
      heading = split.heading;
      opening = split.opening;
      lines = split.rest;
      head = head;
      order = split.order;
      heads = split.heads;
      opens = split.opens;
      no_line = split.is_head;
      version = ap (λ (input : InputData). input.version) leads.1;
      set = ap (λ (input : InputData). input.set) leads.1 ∙ same_set waking head one_each split.is_head split.rest;
      one_stream = All-weaker IsAlone (λ (posted : Posted). posted.stream ≡ 0) (λ posted alone. alone.0) input.events alone;
      each = λ n.
          subst (IsWrittenBy waking head.ids head.window (take n split.rest)) (sym events)
          (each_written waking head one_each split.is_head split.rest forward n);
      time =
          let times = times_of (changes_in waking head.ids head.window [] split.rest) in
          subst (λ (all : List Posted). Lasts (first_time times) (last_time (used_times waking head.window split.rest)) (all_units all))
          (sym events)
          (whole_lasts waking head one_each split.is_head split.rest forward);
      changing = subst (AllChange []) (sym events) (all_change waking head one_each split.is_head split.rest);
      short = All-weaker IsAlone (λ (posted : Posted). HasUnits posted.event) (λ posted alone. alone.1) input.events alone;
    }

pub import_is_faithful : ImportIsFaithful
import_is_faithful bytes input is =
    let look : SurveyData = survey_of (lines_of bytes) in
    of_split bytes input (head_split look (IsRest look input) (no_end look input) (line_leads look input) 1 HeaderExpected (lines_of bytes)
    tt tt is)
