-- Each line comes to one outcome, and so each text is that of an input or is refused.
use Rattle.std.proofs.Common.{◌≡◌, ℕ, ◌≤◌, ◌<◌, ◌⊎◌, Bool, true, false, nat_lt, List, [], ◌∷◌, length, codes, Option, Some, None, refl, sym}
use Rattle.std.proofs.Common.{ap, ◌∙◌, subst, inl, inr, arith, length-append}
use Rattle.std.specs.Prelude.{if◌then◌else◌}
use Rattle.std.specs.List.{list_any}
use Rattle.std.specs.Prelude.{nat_eq}
use Rattle.std.proofs.lemmas.Bool.{lt-ltb, true≢false, cases_lt}
use Rattle.std.proofs.lemmas.List.Elements.{All-nil, All-head, All-tail, All-weaker}
use Rattle.affinity_mask.proofs.TextCases.{text_list_or_fault}
use Rattle.affinity_mask.proofs.ListTexts.{list_text-one_set, list_text-one_fault, list_text-no_fault}
use Rattle.task_set.specs.Name.{IsName}
use Rattle.task_set.specs.TaskSet.{TaskData, SetData, IsTaskSet, IsMask, with_task}
use Rattle.task_set.specs.Refusal.{new_task, CanAdd}
use Rattle.task_set.proofs.Added.{IsTaskSet-push}
use Rattle.task_set.proofs.Refusals.{CanAdd-IsRefusal, same_refusal}
use Rattle.text_fields.specs.Number.{IsNumberOf, IsNumberWithin}
use Rattle.text_fields.proofs.Addable.{can_add_decided}
use Rattle.text_fields.proofs.Decisions.{bytes_decided, number_within_decided}
use Rattle.trace_reader.specs.Input.{InputData, IsPostedOf}
use Rattle.trace_reader.specs.declared.posted.Posted.{Posted}
use Rattle.task_set.specs.Event.{IsOfVersion}
use Rattle.task_set.specs.declared.event.Event.{Event}
use Rattle.task_set.specs.declared.event.Event.TheVariants.{Arrive, Depart, Tick, Affinity, Offline, Online}
use Rattle.text_fields.specs.EventText.{IsAboutSet}
use Rattle.text_fields.specs.Choice.{IsDecided}
use Rattle.text_fields.specs.Lines.{fields_of}
use Rattle.text_fields.specs.LineRule.{IsLineOutcome}
use Rattle.text_fields.specs.Machine.{Outcome, Leads, Fails, IsMachine}
use Rattle.text_fields.proofs.Choices.{only, choice, reading, judging, allowing}
use Rattle.text_fields.proofs.LineRule.{lines_machine}
use Rattle.kernel_trace.specs.Course.{CourseData, WindowData, mentions, is_unseen, written, after_mention, after_mentions, is_backward}
use Rattle.kernel_trace.specs.Course.{is_in_window}
use Rattle.kernel_trace.specs.Reading.{AreTasks, IsCourse, IsSoundSoFar}
use Rattle.kernel_trace.specs.Survey.{SurveyData, is_gap}
use Rattle.kernel_trace.specs.TraceFault.{trace_kind}
use Rattle.kernel_trace.specs.TraceLine.{Said, Nothing, LostEvents, Malformed, Happened, said_by}
use Rattle.kernel_trace.specs.TraceText.{IsWorded, TaskLine, IsTaskForm, BeginsWith, events_line, window_of, Progress, HeaderExpected}
use Rattle.kernel_trace.specs.TraceText.{ProcessorsExpected, Listed, Tracing, LineOutcome, without_tasks, priority_of, with_listed}
use Rattle.kernel_trace.specs.TraceText.{IsAddOutcome, IsTaskOutcome, window_outcome, IsListedOutcome, IsWordedOutcome, IsHeadOutcome}
use Rattle.kernel_trace.specs.TraceText.{counted_outcome, used_outcome, timed_outcome, said_outcome, trace_outcome, trace_end, IsLine}
use Rattle.kernel_trace.specs.TraceText.{IsEndOutcome}
use Rattle.kernel_trace.specs.declared.change.Change.{Change}
use Rattle.trace_passages.specs.declared.passage.Readiness.{Readiness}
use Rattle.kernel_trace.specs.declared.change.Standing.TheVariants.{Unmentioned}
use Rattle.kernel_trace.specs.declared.fault.TraceKind.{TraceKind}
use Rattle.kernel_trace.specs.declared.fault.TraceKind.TheVariants.{BadHeader, BadProcessors, BadMask, TaskRefused, SamePid, BadWindow}
use Rattle.kernel_trace.specs.declared.fault.TraceKind.TheVariants.{Backward, Lost, BadForm, Unseen, ManyEvents, NoEvents, Overwritten}
use Rattle.kernel_trace.proofs.Courses.{mention_keeps, mentions_tasks, length_ticks, part_zero}

-- ---- the forms of lines
worded_decided : (word : List ℕ) (least most : ℕ) (fields : List (List ℕ))
    → ((n : ℕ) × IsWorded word least most n fields) ⊎ ((n : ℕ) → IsWorded word least most n fields → ⊥)
worded_decided word least most (first ∷ number ∷ []) = elim (bytes_decided first word) [
  | inr differs ↦ inr (λ n is. let e = is.1 in differs (cc))
  | inl same ↦ elim (number_within_decided least most number) [
    | inl found ↦ inl (found.0, (number, ap (λ (text : List ℕ). text ∷ number ∷ []) same, found.1))
    | inr none ↦ inr (λ n is. let e = is.1 in none n (subst (λ (text : List ℕ). IsNumberWithin least most text n) (cc) is.2))
  ]
]
worded_decided word least most fields = inr (λ n is. let e = is.1 in cc)

same_number : (text other : List ℕ) (n k : ℕ) → text ≡ other → IsNumberOf text n → IsNumberOf other k → n ≡ k
same_number text other n k same one another = let e = one.1 in let e' = another.1 in cc

same_worded : (word : List ℕ) (least most n k : ℕ) (fields : List (List ℕ)) → IsWorded word least most n fields
    → IsWorded word least most k fields → n ≡ k
same_worded word least most n k fields one two =
    let e = one.1 in let e' = two.1 in
    let numbers : one.0 ≡ two.0 = cc in
    same_number one.0 two.0 n k numbers one.2.0 two.2.0

task_form_decided : (fields : List (List ℕ)) → ((line : TaskLine) × IsTaskForm fields line)
    ⊎ ((line : TaskLine) → IsTaskForm fields line → ⊥)
task_form_decided (word ∷ name ∷ level ∷ list ∷ id ∷ []) = elim (bytes_decided word (codes "task")) [
  | inr differs ↦ inr (λ line form. let e = form.each_field in differs (cc))
  | inl same ↦ elim (number_within_decided 0 4194303 level) [
    | inr none ↦ inr (λ line form. let e = form.each_field in
        none line.level (subst (λ (text : List ℕ). IsNumberWithin 0 4194303 text line.level) (cc) form.level_is))
    | inl urgency ↦ elim (number_within_decided 1 4194304 id) [
      | inr none ↦ inr (λ line form. let e = form.each_field in
          none line.id (subst (λ (text : List ℕ). IsNumberWithin 1 4194304 text line.id) (cc) form.id_is))
      | inl thread ↦ inl (
        record { name = name; level = urgency.0; list = list; id = thread.0 },
        record {
          level = level;
          id = id;
          each_field = ap (λ (first : List ℕ). first ∷ name ∷ level ∷ list ∷ id ∷ []) same;
          level_is = urgency.1;
          id_is = thread.1;
        },
      )
    ]
  ]
]
task_form_decided fields = inr (λ line form. let e = form.each_field in cc)

same_line : (fields : List (List ℕ)) (line other : TaskLine) → IsTaskForm fields line → IsTaskForm fields other → line ≡ other
same_line fields line other one two =
    let e = one.each_field in let e' = two.each_field in
    let names : line.name ≡ other.name = cc in
    let lists : line.list ≡ other.list = cc in
    let levels = same_number one.level two.level line.level other.level (cc) one.level_is.0 two.level_is.0 in
    let ids = same_number one.id two.id line.id other.id (cc) one.id_is.0 two.id_is.0 in
    let made : List ℕ → ℕ → List ℕ → ℕ → TaskLine = λ name level list id. record { name = name; level = level; list = list; id = id } in
    let same : made line.name line.level line.list line.id
    ≡ made other.name other.level other.list other.id = rw (names, levels, lists, ids) refl in
    same

begins_decided : (word : List ℕ) (fields : List (List ℕ)) → BeginsWith word fields ⊎ (BeginsWith word fields → ⊥)
begins_decided word [] = inr (λ is. let e = is.1 in cc)
begins_decided word (first ∷ rest) = elim (bytes_decided first word) [
  | inl same ↦ inl (rest, ap (λ (one : List ℕ). one ∷ rest) same)
  | inr differs ↦ inr (λ is. let e = is.1 in differs (cc))
]

events_decided : (fields : List (List ℕ)) → (fields ≡ events_line) ⊎ (fields ≡ events_line → ⊥)
events_decided (word ∷ []) = elim (bytes_decided word (codes "events")) [
  | inl same ↦ inl (ap (λ (first : List ℕ). first ∷ []) same)
  | inr differs ↦ inr (λ e. differs (cc))
]
events_decided fields = inr (λ e. cc)

-- ---- what a line of the head comes to
worded : (word : List ℕ) (least most : ℕ) (fields : List (List ℕ)) (next : ℕ → Progress) (kind : TraceKind)
    → IsDecided (IsWordedOutcome (λ n. IsWorded word least most n fields) next kind)
worded word least most fields next kind =
    reading (worded_decided word least most fields) (λ n k. same_worded word least most n k fields) (λ n is. only _) (only _)

added : (c : CourseData) (line : TaskLine) (mask : ℕ) → IsTaskSet c.set → IsDecided (IsAddOutcome c line mask)
added c line mask valid =
    let task = new_task line.name (priority_of c line.level) mask in
    allowing (can_add_decided c.set task valid) (λ fault other is also. same_refusal c.set task fault other valid is also)
    (λ fault can is. CanAdd-IsRefusal c.set task fault can is) (λ can. only _) (λ fault is. only _)

listed_task : (c : CourseData) (line : TaskLine) → IsTaskSet c.set → IsDecided (IsTaskOutcome c line)
listed_task c line valid =
    judging (text_list_or_fault line.list) (list_text-one_set line.list) (list_text-one_fault line.list) (list_text-no_fault line.list)
    (λ mask is. added c line mask valid) (λ fault is. only _)

listed : (c : CourseData) (fields : List (List ℕ)) → IsTaskSet c.set → IsDecided (IsListedOutcome c fields)
listed c fields valid =
    choice (begins_decided (codes "task") fields)
    (λ task. reading (task_form_decided fields) (same_line fields) (λ line is. listed_task c line valid) (only _))
    (λ other. choice (begins_decided (codes "window") fields) (λ window. only _)
    (λ neither. choice (events_decided fields) (λ events. only _) (λ none. only _)))

fields_decided : (expected : Progress) (fields : List (List ℕ)) → IsSoundSoFar expected → IsDecided (IsHeadOutcome expected fields)
fields_decided HeaderExpected fields valid = worded (codes "trace") 1 1 fields (λ version. ProcessorsExpected) BadHeader
fields_decided ProcessorsExpected fields valid = worded (codes "processors") 1 64 fields (λ m. Listed (without_tasks m)) BadProcessors
fields_decided (Listed c) fields valid = listed c fields valid.0.valid
fields_decided (Tracing c) fields valid = only _

-- ---- what a line leads to is valid
pub same_next : (one two : Progress) → ◌≡◌ {A = LineOutcome} (Leads one) (Leads two) → one ≡ two
same_next one two e = cc

lead_valid : (next found : Progress) → ◌≡◌ {A = LineOutcome} (Leads next) (Leads found) → IsSoundSoFar found → IsSoundSoFar next
lead_valid next found e valid = subst IsSoundSoFar (sym (same_next next found e)) valid

pub fails_not_leads : {A : Type 0} (next : Progress) (kind : TraceKind) → ◌≡◌ {A = LineOutcome} (Leads next) (Fails kind) → A
fails_not_leads next kind e = cc

abbrev IsOfFirst : Posted → Type 0
IsOfFirst posted = IsOfVersion 1 posted.event

valid_without_tasks : (m : ℕ) → (1 ≤ m) × (m ≤ 64) → IsSoundSoFar (Listed (without_tasks m))
valid_without_tasks m processors = (
  record {
    valid = record {
      processors = processors;
      count = omega arith;
      names = All-nil (λ (task : TaskData). IsName task.name);
      differ = λ i j d lt below. absurd (omega arith);
      masks = All-nil (λ (task : TaskData). IsMask m task.mask);
    };
    ids = refl;
    standings = refl;
    events = All-nil (IsPostedOf (record { processors = m; tasks = [] }));
    of_version = All-nil IsOfFirst;
  },
  few,
)
  where
    few : length (written (without_tasks m)) ≤ 20000
    few = omega (arith, length_ticks 0, part_zero)

-- an event of a set is one of a larger set
about_more : (set : SetData) (task : TaskData) (event : Event) → IsAboutSet set event → IsAboutSet (with_task set task) event
about_more set task (Arrive t) below = omega (arith, below, length-append set.tasks (task ∷ []))
about_more set task (Depart t) below = omega (arith, below, length-append set.tasks (task ∷ []))
about_more set task (Tick units) about = tt
about_more set task (Affinity t mask) about = (omega (arith, about.0, length-append set.tasks (task ∷ [])), about.1)
about_more set task (Offline p) below = below
about_more set task (Online p) below = below

posted_more : (set : SetData) (task : TaskData) (posted : Posted) → IsPostedOf set posted → IsPostedOf (with_task set task) posted
posted_more set task posted is = record { stream = is.stream; event = (about_more set task posted.event is.event.0, is.event.1) }

-- other times and another window
pub with_times : (c : CourseData) (last used : Option ℕ) → IsCourse c → IsCourse (record c { last = last; used = used })
with_times c last used is =
    record { valid = is.valid; ids = is.ids; standings = is.standings; events = is.events; of_version = is.of_version }

pub with_last : (c : CourseData) (last : Option ℕ) → IsCourse c → IsCourse (record c { last = last })
with_last c last is = record { valid = is.valid; ids = is.ids; standings = is.standings; events = is.events; of_version = is.of_version }

with_window : (c : CourseData) (window : Option WindowData) → IsCourse c → IsCourse (record c { window = window })
with_window c window is =
    record { valid = is.valid; ids = is.ids; standings = is.standings; events = is.events; of_version = is.of_version }

valid_with_listed : (c : CourseData) (line : TaskLine) (mask : ℕ) → IsSoundSoFar (Listed c)
    → CanAdd c.set (new_task line.name (priority_of c line.level) mask)
    → IsSoundSoFar (Listed (with_listed c line mask))
valid_with_listed c line mask valid can =
    let task = new_task line.name (priority_of c line.level) mask in
    let ids_long = length-append c.ids (line.id ∷ []) in
    let standings_long = length-append c.standings (Unmentioned ∷ []) in
    let tasks_long = length-append c.set.tasks (task ∷ []) in (
      record {
        valid = IsTaskSet-push c.set task valid.0.valid can;
        ids = (let each = valid.0.ids in omega (arith, each, ids_long, tasks_long));
        standings = (let each = valid.0.standings in omega (arith, each, standings_long, tasks_long));
        events = All-weaker (IsPostedOf c.set) (IsPostedOf (with_task c.set task)) (λ posted is. posted_more c.set task posted is)
            c.events valid.0.events;
        of_version = valid.0.of_version;
      },
      valid.1,
    )

id_valid : (b : Bool) (c : CourseData) (line : TaskLine) (mask : ℕ) (next : Progress) → IsSoundSoFar (Listed (with_listed c line mask))
    → ◌≡◌ {A = LineOutcome} (Leads next) (if b then Fails SamePid else Leads (Listed (with_listed c line mask))) → IsSoundSoFar next
id_valid true c line mask next valid e = fails_not_leads next SamePid e
id_valid false c line mask next valid e = lead_valid next (Listed (with_listed c line mask)) e valid

window_valid : (c : CourseData) (before window : Option WindowData) (next : Progress) → IsSoundSoFar (Listed c)
    → ◌≡◌ {A = LineOutcome} (Leads next) (window_outcome c before window) → IsSoundSoFar next
window_valid c None (Some window) next valid e =
    lead_valid next (Listed (record c { window = Some window })) e (with_window c (Some window) valid.0, valid.1)
window_valid c None None next valid e = fails_not_leads next BadWindow e
window_valid c (Some before) window next valid e = fails_not_leads next BadWindow e

add_valid : (c : CourseData) (line : TaskLine) (mask : ℕ) (next : Progress) → IsSoundSoFar (Listed c)
    → IsAddOutcome c line mask (Leads next) → IsSoundSoFar next
add_valid c line mask next valid (inr refused) = fails_not_leads next (TaskRefused refused.0) refused.2
add_valid c line mask next valid (inl (can, e)) =
    id_valid (list_any (nat_eq line.id) c.ids) c line mask next (valid_with_listed c line mask valid can) e

listed_valid : (c : CourseData) (fields : List (List ℕ)) (next : Progress) → IsSoundSoFar (Listed c) → IsListedOutcome c fields (Leads next)
    → IsSoundSoFar next
listed_valid c fields next valid (inl (task, inl (line, form, inr bad))) = fails_not_leads next (BadMask bad.0) bad.2
listed_valid c fields next valid (inl (task, inl (line, form, inl good))) = add_valid c line good.0 next valid good.2
listed_valid c fields next valid (inl (task, inr none)) = fails_not_leads next _ none.1
listed_valid c fields next valid (inr (other, inl (window, e))) = window_valid c c.window (window_of fields) next valid e
listed_valid c fields next valid (inr (other, inr (neither, inl events))) = lead_valid next (Tracing c) events.1 valid
listed_valid c fields next valid (inr (other, inr (neither, inr none))) = fails_not_leads next _ none.1

worded_valid : (Is : ℕ → Type 0) (to : ℕ → Progress) (kind : TraceKind) (next : Progress) → ((n : ℕ) → Is n → IsSoundSoFar (to n))
    → IsWordedOutcome Is to kind (Leads next) → IsSoundSoFar next
worded_valid Is to kind next valid (inl found) = lead_valid next (to found.0) found.2 (valid found.0 found.1)
worded_valid Is to kind next valid (inr none) = fails_not_leads next kind none.1

outcome_valid : (expected : Progress) (fields : List (List ℕ)) (next : Progress) → IsSoundSoFar expected
    → IsHeadOutcome expected fields (Leads next) → IsSoundSoFar next
outcome_valid HeaderExpected fields next valid comes = worded_valid _ _ _ next (λ n is. tt) comes
outcome_valid ProcessorsExpected fields next valid comes = worded_valid _ _ _ next (λ n is. valid_without_tasks n (is.2.1, is.2.2)) comes
outcome_valid (Listed c) fields next valid comes = listed_valid c fields next valid comes
outcome_valid (Tracing c) fields next valid e = lead_valid next (Tracing c) e valid

-- ---- a line of the trace
mentions_keep : (c : CourseData) (ms : List Readiness) → IsCourse c → AreTasks (length c.set.tasks) ms → IsCourse (after_mentions c ms)
mentions_keep c [] is tasks = is
mentions_keep c (m ∷ ms) is tasks =
    let first = mention_keeps c m is (All-head (λ (m : Readiness). m.task < length c.set.tasks) m ms tasks) in
    mentions_keep (after_mention c m) ms first.0
    (subst (λ (s : SetData). AreTasks (length s.tasks) ms) (sym first.1)
    (All-tail (λ (m : Readiness). m.task < length c.set.tasks) m ms tasks))

pub not_above : (a b : ℕ) → nat_lt a b ≡ false → b ≤ a
not_above a b fails = elim (cases_lt a b) [
  | inl below ↦ absurd (true≢false (sym (lt-ltb a b below) ∙ fails))
  | inr from ↦ from
]

counted_valid : (b : Bool) (c : CourseData) (next : Progress) → IsCourse c → (b ≡ false → length (written c) ≤ 20000)
    → ◌≡◌ {A = LineOutcome} (Leads next) (if b then Fails ManyEvents else Leads (Tracing c)) → IsSoundSoFar next
counted_valid true c next is few e = fails_not_leads next ManyEvents e
counted_valid false c next is few e = lead_valid next (Tracing c) e (is, few refl)

used_valid : (b : Bool) (c : CourseData) (next : Progress) → IsCourse c
    → ◌≡◌ {A = LineOutcome} (Leads next) (if b then Fails Unseen else counted_outcome c) → IsSoundSoFar next
used_valid true c next is e = fails_not_leads next Unseen e
used_valid false c next is e =
    counted_valid (nat_lt 20000 (length (written c))) c next is (λ few. not_above 20000 (length (written c)) few) e

timed_valid : (b : Bool) (c : CourseData) (time : ℕ) (change : Change) (next : Progress) → IsCourse c → length (written c) ≤ 20000
    → ◌≡◌ {A = LineOutcome} (Leads next) (if b then used_outcome (record c { last = Some time; used = Some time }) change
    else Leads (Tracing (record c { last = Some time }))) → IsSoundSoFar next
timed_valid true c time change next is few e =
    let now : CourseData = record c { last = Some time; used = Some time } in
    let is_now = with_times c (Some time) (Some time) is in
    used_valid (is_unseen c.standings c.ids change) (after_mentions now (mentions c.ids change)) next
    (mentions_keep now (mentions c.ids change) is_now
    (subst (λ (n : ℕ). AreTasks n (mentions c.ids change)) is.ids (mentions_tasks c.ids change))) e
timed_valid false c time change next is few e =
    lead_valid next (Tracing (record c { last = Some time })) e (with_last c (Some time) is, few)

said_valid : (c : CourseData) (said : Said) (next : Progress) → IsCourse c → length (written c) ≤ 20000
    → ◌≡◌ {A = LineOutcome} (Leads next) (said_outcome c said) → IsSoundSoFar next
said_valid c Nothing next is few e = lead_valid next (Tracing c) e (is, few)
said_valid c LostEvents next is few e = fails_not_leads next Lost e
said_valid c Malformed next is few e = fails_not_leads next BadForm e
said_valid c (Happened time change) next is few e = by (is_backward c.last time) e
  where
    by : (b : Bool) → ◌≡◌ {A = LineOutcome} (Leads next) (if b then Fails Backward else timed_outcome c time change) → IsSoundSoFar next
    by true e = fails_not_leads next Backward e
    by false e = timed_valid (is_in_window c.window time) c time change next is few e

-- ---- the machine
end_comes : (expected : Progress) → (outcome : Outcome InputData TraceKind) × IsEndOutcome expected outcome
end_comes HeaderExpected = (Fails NoEvents, refl)
end_comes ProcessorsExpected = (Fails NoEvents, refl)
end_comes (Listed c) = (Fails NoEvents, refl)
end_comes (Tracing c) = (trace_end c, refl)

end_once : (expected : Progress) (outcome other : Outcome InputData TraceKind) → IsEndOutcome expected outcome → IsEndOutcome expected other
    → outcome ≡ other
end_once HeaderExpected outcome other one two = one ∙ sym two
end_once ProcessorsExpected outcome other one two = one ∙ sym two
end_once (Listed c) outcome other one two = one ∙ sym two
end_once (Tracing c) outcome other one two = one ∙ sym two

-- the machine of the fields of the head
head_machine : IsMachine HeaderExpected IsSoundSoFar IsHeadOutcome IsEndOutcome
head_machine = record {
  starts = tt;
  keeps = outcome_valid;
  one_outcome = λ expected fields outcome other valid. (let decided = fields_decided expected fields valid in decided.one outcome other);
  some_outcome = λ expected fields valid. (let decided = fields_decided expected fields valid in decided.some);
  one_end = λ expected outcome other valid. end_once expected outcome other;
  some_end = λ expected valid. end_comes expected;
}

head_lines : IsMachine HeaderExpected IsSoundSoFar (IsLineOutcome 4096 true trace_kind IsHeadOutcome) IsEndOutcome
head_lines = lines_machine 4096 true trace_kind head_machine

-- a line of the trace, by whether there is a gap before it
fields_valid : (b : Bool) (c : CourseData) (said : Said) (next : Progress) → IsCourse c → length (written c) ≤ 20000
    → ◌≡◌ {A = LineOutcome} (Leads next) (if b then Fails Overwritten else said_outcome c said) → IsSoundSoFar next
fields_valid true c said next is few e = fails_not_leads next Overwritten e
fields_valid false c said next is few e = said_valid c said next is few e

pub line_valid : (look : SurveyData) (expected : Progress) (line : List ℕ) (next : Progress) → IsSoundSoFar expected
    → IsLine look expected line (Leads next) → IsSoundSoFar next
line_valid look HeaderExpected line next valid comes = head_lines.keeps HeaderExpected line next valid comes
line_valid look ProcessorsExpected line next valid comes = head_lines.keeps ProcessorsExpected line next valid comes
line_valid look (Listed c) line next valid comes = head_lines.keeps (Listed c) line next valid comes
line_valid look (Tracing c) line next valid comes =
    fields_valid (is_gap look c.window (fields_of line)) c (said_by look.waking (fields_of line)) next valid.0 valid.1 comes

line_once : (look : SurveyData) (expected : Progress) (line : List ℕ) (outcome other : LineOutcome) → IsSoundSoFar expected
    → IsLine look expected line outcome → IsLine look expected line other → outcome ≡ other
line_once look HeaderExpected line outcome other valid one two = head_lines.one_outcome HeaderExpected line outcome other valid one two
line_once look ProcessorsExpected line outcome other valid one two =
    head_lines.one_outcome ProcessorsExpected line outcome other valid one two
line_once look (Listed c) line outcome other valid one two = head_lines.one_outcome (Listed c) line outcome other valid one two
line_once look (Tracing c) line outcome other valid one two = one ∙ sym two

line_comes : (look : SurveyData) (expected : Progress) (line : List ℕ) → IsSoundSoFar expected
    → (outcome : LineOutcome) × IsLine look expected line outcome
line_comes look HeaderExpected line valid = head_lines.some_outcome HeaderExpected line valid
line_comes look ProcessorsExpected line valid = head_lines.some_outcome ProcessorsExpected line valid
line_comes look (Listed c) line valid = head_lines.some_outcome (Listed c) line valid
line_comes look (Tracing c) line valid = (trace_outcome look c line, refl)

pub trace_machine : (look : SurveyData) → IsMachine HeaderExpected IsSoundSoFar (IsLine look) IsEndOutcome
trace_machine look = record {
  starts = tt;
  keeps = line_valid look;
  one_outcome = line_once look;
  some_outcome = line_comes look;
  one_end = λ expected outcome other valid. end_once expected outcome other;
  some_end = λ expected valid. end_comes expected;
}
