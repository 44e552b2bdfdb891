-- Each line comes to one outcome, and so each text is that of a trace of tasks or is refused.
use Rattle.std.proofs.Common.{◌≡◌, ℕ, Bool, true, false, List, [], ◌∷◌, ◌++◌, length, Option, Some, None, refl, sym, ap, ◌∙◌, subst}
use Rattle.std.proofs.Common.{length-set}
use Rattle.std.specs.Prelude.{is_some, ◌||◌, if◌then◌else◌}
use Rattle.text_fields.specs.Lines.{fields_of}
use Rattle.text_fields.specs.Machine.{Outcome, Leads, Fails, IsMachine}
use Rattle.kernel_trace.specs.Course.{CourseData, is_unseen, is_backward, is_in_window}
use Rattle.kernel_trace.specs.Passage.{task_change, first_mention, second_mention, changing, marked, FollowingData, FollowingOutcome}
use Rattle.kernel_trace.specs.Passage.{nothing_followed, at_time, after_marks, start_after, kept_outcome, marked_outcome, used_outcome}
use Rattle.kernel_trace.specs.Passage.{timed_outcome, told_outcome, said_outcome, fields_outcome, trace_end, head_outcome, IsOfHead}
use Rattle.kernel_trace.specs.Passage.{IsLineAt, IsFollowed, TaskTraceData, IsEndAt, IsFollowedEnd}
use Rattle.kernel_trace.specs.PassageView.{IsFollowing, CanFollow}
use Rattle.kernel_trace.specs.Processor.{processor_of}
use Rattle.kernel_trace.specs.Reading.{IsCourse, IsSoundSoFar}
use Rattle.kernel_trace.specs.Survey.{SurveyData, is_gap}
use Rattle.kernel_trace.specs.TraceLine.{Said, Nothing, LostEvents, Malformed, Happened, said_by}
use Rattle.kernel_trace.specs.TraceText.{Progress, HeaderExpected, ProcessorsExpected, Listed, Tracing, LineOutcome, IsLine}
use Rattle.kernel_trace.specs.Unlisted.{with_said, number_read}
use Rattle.kernel_trace.specs.declared.change.Change.{Change}
use Rattle.trace_passages.specs.declared.passage.Readiness.{Readiness}
use Rattle.kernel_trace.specs.declared.change.Standing.{Standing}
use Rattle.kernel_trace.specs.declared.fault.TraceKind.{TraceKind}
use Rattle.kernel_trace.specs.declared.fault.TraceKind.TheVariants.{Lost, BadForm, Backward, Unseen, ManyEvents, NoEvents, Overwritten}
use Rattle.trace_passages.specs.declared.passage.Passage.{Passage}
use Rattle.kernel_trace.specs.declared.task_change.TaskChange.{TaskChange}
use Rattle.kernel_trace.proofs.Decided.{trace_machine, line_valid, with_times, with_last}

pub same_following : (one two : FollowingData) → ◌≡◌ {A = FollowingOutcome} (Leads one) (Leads two) → one ≡ two
same_following one two e = cc

pub faulty : {A : Type 0} (next : FollowingData) (kind : TraceKind) → ◌≡◌ {A = FollowingOutcome} (Leads next) (Fails kind) → A
faulty next kind e = cc

-- ---- a line of the head
-- where it leads on, it does so for an input
pub head_leads : (f next : FollowingData) (head : LineOutcome) → ◌≡◌ {A = FollowingOutcome} (Leads next) (head_outcome f head)
    → (p : Progress) × (head ≡ Leads p) × (next ≡ record f { progress = p })
head_leads f next (Leads p) e = (p, refl, same_following next (record f { progress = p }) e)
head_leads f next (Fails kind) e = faulty next kind e

valid_follows : (p : Progress) → IsSoundSoFar p → IsFollowing p
valid_follows HeaderExpected valid = valid
valid_follows ProcessorsExpected valid = valid
valid_follows (Listed c) valid = valid
valid_follows (Tracing c) valid = valid.0

head_valid : (look : SurveyData) (f : FollowingData) (p : Progress) (line : List ℕ) (next : FollowingData) → IsSoundSoFar p
    → IsOfHead f (IsLine look p line) (Leads next) → CanFollow next
head_valid look f p line next valid (head, comes, e) =
    let leads = head_leads f next head e in
    let goes : IsLine look p line (Leads leads.0) = subst (IsLine look p line) leads.1 comes in
    subst CanFollow (sym leads.2) (valid_follows leads.0 (line_valid look p line leads.0 valid goes))

-- ---- a line of the trace
at_time_valid : (c : CourseData) (time : ℕ) → IsCourse c → IsCourse (at_time c time)
at_time_valid c time is = by (is_in_window c.window time)
  where
    by : (b : Bool) → IsCourse (if b then record c { last = Some time; used = Some time } else record c { last = Some time })
    by true = with_times c (Some time) (Some time) is
    by false = with_last c (Some time) is

pub length_marked : (standings : List Standing) (m : Option Readiness) → length (marked standings m) ≡ length standings
length_marked standings None = refl
length_marked standings (Some m) = length-set standings m.task _

pub marks_valid : (c : CourseData) (first second : Option Readiness) → IsCourse c → IsCourse (after_marks c first second)
marks_valid c first second is = record {
  valid = is.valid;
  ids = is.ids;
  standings = length_marked (marked c.standings first) second ∙ length_marked c.standings first ∙ is.standings;
  events = is.events;
  of_version = is.of_version;
}

-- a passage more changes nothing of what is expected
passage_progress : (b : Bool) (f : FollowingData) (start : ℕ) (passage : Passage) (next : FollowingData)
    → ◌≡◌ {A = FollowingOutcome} (Leads next) (if b then Leads (record f { start = Some start; passages = f.passages ++ passage ∷ [] })
    else Fails ManyEvents)
    → next.progress ≡ f.progress
passage_progress true f start passage next e =
    ap (λ (g : FollowingData). g.progress) (same_following next (record f { start = Some start; passages = f.passages ++ passage ∷ [] }) e)
passage_progress false f start passage next e = faulty next ManyEvents e

kept_progress : (f : FollowingData) (start : Option ℕ) (time : ℕ) (told : TaskChange) (first second : Option Readiness)
    (next : FollowingData)
    → ◌≡◌ {A = FollowingOutcome} (Leads next) (kept_outcome f start time told first second) → next.progress ≡ f.progress
kept_progress f None time told first second next e = ap (λ (g : FollowingData). g.progress) (same_following next f e)
kept_progress f (Some start) time told first second next e = passage_progress _ f start _ next e

traced : (next : FollowingData) (c : CourseData) → next.progress ≡ Tracing c → IsCourse c → CanFollow next
traced next c e is = subst IsFollowing (sym e) is

used_valid : (b : Bool) (f : FollowingData) (c : CourseData) (time : ℕ) (change : Change) (told : TaskChange) (next : FollowingData)
    → IsCourse c
    → ◌≡◌ {A = FollowingOutcome} (Leads next)
    (if b then Fails Unseen else marked_outcome (record f { unlisted = with_said c.ids f.unlisted change }) c time told
    (first_mention c.ids change) (second_mention c.ids change))
    → CanFollow next
used_valid true f c time change told next is e = faulty next Unseen e
used_valid false f c time change told next is e =
    let first = first_mention c.ids change in
    let second = second_mention c.ids change in
    let after = after_marks c first second in
    let moved : FollowingData = record f { progress = Tracing after; unlisted = with_said c.ids f.unlisted change } in
    traced next after
    (kept_progress moved (start_after f.start (is_some (changing c.standings first) || is_some (changing (marked c.standings first) second))
    time) time told
    (changing c.standings first) (changing (marked c.standings first) second) next e)
    (marks_valid c first second is)

timed_valid : (b : Bool) (f : FollowingData) (c : CourseData) (time : ℕ) (change : Change) (told : TaskChange) (next : FollowingData)
    → IsCourse c
    → ◌≡◌ {A = FollowingOutcome} (Leads next) (if b then used_outcome f c time change told else Leads (record f { progress = Tracing c }))
    → CanFollow next
timed_valid true f c time change told next is e = used_valid (is_unseen c.standings c.ids change) f c time change told next is e
timed_valid false f c time change told next is e =
    traced next c (ap (λ (g : FollowingData). g.progress) (same_following next (record f { progress = Tracing c }) e)) is

told_valid : (f : FollowingData) (c : CourseData) (time : ℕ) (change : Change) (told : Option TaskChange) (next : FollowingData)
    → IsCourse c
    → ◌≡◌ {A = FollowingOutcome} (Leads next) (told_outcome f c time change told) → CanFollow next
told_valid f c time change None next is e = faulty next BadForm e
told_valid f c time change (Some told) next is e = by (is_backward c.last time) e
  where
    by : (b : Bool) → ◌≡◌ {A = FollowingOutcome} (Leads next) (if b then Fails Backward else timed_outcome f c time change told)
        → CanFollow next
    by true e = faulty next Backward e
    by false e = timed_valid (is_in_window c.window time) f (at_time c time) time change told next (at_time_valid c time is) e

said_valid : (f : FollowingData) (c : CourseData) (said : Said) (processor : Option ℕ) (next : FollowingData) → f.progress ≡ Tracing c
    → IsCourse c
    → ◌≡◌ {A = FollowingOutcome} (Leads next) (said_outcome f c said processor) → CanFollow next
said_valid f c Nothing processor next expected is e =
    traced next c (ap (λ (g : FollowingData). g.progress) (same_following next f e) ∙ expected) is
said_valid f c LostEvents processor next expected is e = faulty next Lost e
said_valid f c Malformed processor next expected is e = faulty next BadForm e
said_valid f c (Happened time change) processor next expected is e =
    told_valid f c time change (task_change c.ids (number_read c.ids) change processor) next is e

-- by whether there is a gap before it
fields_valid : (b : Bool) (f : FollowingData) (c : CourseData) (said : Said) (processor : Option ℕ) (next : FollowingData)
    → f.progress ≡ Tracing c → IsCourse c
    → ◌≡◌ {A = FollowingOutcome} (Leads next) (if b then Fails Overwritten else said_outcome f c said processor) → CanFollow next
fields_valid true f c said processor next expected is e = faulty next Overwritten e
fields_valid false f c said processor next expected is e = said_valid f c said processor next expected is e

-- ---- a line that is used
-- it comes to what its mentions come to, whatever is expected
pub told_used : (f : FollowingData) (c d : CourseData) (time : ℕ) (change : Change) (told : Option TaskChange) (some : TaskChange)
    → told ≡ Some some
    → is_backward c.last time ≡ false → is_in_window c.window time ≡ true → d ≡ at_time c time
    → told_outcome f c time change told ≡ used_outcome f d time change some
told_used f c d time change told some is forward within at =
    ap (told_outcome f c time change) is
    ∙ ap (λ (b : Bool). if b then Fails Backward else timed_outcome f c time change some) forward
    ∙ ap (λ (b : Bool). if b then used_outcome f (at_time c time) time change some
    else Leads (record f { progress = Tracing (at_time c time) })) within
    ∙ ap (λ (now : CourseData). used_outcome f now time change some) (sym at)

-- ---- the machine
pub followed_valid : (look : SurveyData) (f : FollowingData) (line : List ℕ) (next : FollowingData) → CanFollow f
    → IsFollowed look f line (Leads next) → CanFollow next
followed_valid look f line next valid comes = by f.progress refl valid comes
  where
    by : (p : Progress) → f.progress ≡ p → IsFollowing p → IsLineAt look f p line (Leads next) → CanFollow next
    by HeaderExpected expected valid comes = head_valid look f HeaderExpected line next valid comes
    by ProcessorsExpected expected valid comes = head_valid look f ProcessorsExpected line next valid comes
    by (Listed c) expected valid comes = head_valid look f (Listed c) line next valid comes
    by (Tracing c) expected valid comes =
        fields_valid (is_gap look c.window (fields_of line)) f c (said_by look.waking (fields_of line))
        (processor_of look.waking (fields_of line)) next expected valid comes

module _ (look : SurveyData) (f : FollowingData) (p : Progress) (line : List ℕ) (valid : IsSoundSoFar p) where
  of_head_once : (outcome other : FollowingOutcome) → IsOfHead f (IsLine look p line) outcome → IsOfHead f (IsLine look p line) other
      → outcome ≡ other
  of_head_once outcome other one two =
      let machine = trace_machine look in
      one.2 ∙ ap (head_outcome f) (machine.one_outcome p line one.0 two.0 valid one.1 two.1) ∙ sym two.2

  of_head_comes : (outcome : FollowingOutcome) × IsOfHead f (IsLine look p line) outcome
  of_head_comes =
      let machine = trace_machine look in
      let some = machine.some_outcome p line valid in
      (head_outcome f some.0, (some.0, some.1, refl))

line_once : (look : SurveyData) (f : FollowingData) (p : Progress) (line : List ℕ) (outcome other : FollowingOutcome) → IsFollowing p
    → IsLineAt look f p line outcome → IsLineAt look f p line other
    → outcome ≡ other
line_once look f HeaderExpected line outcome other valid one two = of_head_once look f HeaderExpected line valid outcome other one two
line_once look f ProcessorsExpected line outcome other valid one two =
    of_head_once look f ProcessorsExpected line valid outcome other one two
line_once look f (Listed c) line outcome other valid one two = of_head_once look f (Listed c) line valid outcome other one two
line_once look f (Tracing c) line outcome other valid one two = one ∙ sym two

line_comes : (look : SurveyData) (f : FollowingData) (p : Progress) (line : List ℕ) → IsFollowing p
    → (outcome : FollowingOutcome) × IsLineAt look f p line outcome
line_comes look f HeaderExpected line valid = of_head_comes look f HeaderExpected line valid
line_comes look f ProcessorsExpected line valid = of_head_comes look f ProcessorsExpected line valid
line_comes look f (Listed c) line valid = of_head_comes look f (Listed c) line valid
line_comes look f (Tracing c) line valid = (fields_outcome look f c (fields_of line), refl)

end_once : (f : FollowingData) (p : Progress) (outcome other : Outcome TaskTraceData TraceKind) → IsEndAt f p outcome → IsEndAt f p other
    → outcome ≡ other
end_once f HeaderExpected outcome other one two = one ∙ sym two
end_once f ProcessorsExpected outcome other one two = one ∙ sym two
end_once f (Listed c) outcome other one two = one ∙ sym two
end_once f (Tracing c) outcome other one two = one ∙ sym two

end_comes : (f : FollowingData) (p : Progress) → (outcome : Outcome TaskTraceData TraceKind) × IsEndAt f p outcome
end_comes f HeaderExpected = (Fails NoEvents, refl)
end_comes f ProcessorsExpected = (Fails NoEvents, refl)
end_comes f (Listed c) = (Fails NoEvents, refl)
end_comes f (Tracing c) = (trace_end f c, refl)

pub following_machine : (look : SurveyData) → IsMachine nothing_followed CanFollow (IsFollowed look) IsFollowedEnd
following_machine look = record {
  starts = tt;
  keeps = followed_valid look;
  one_outcome = λ f line outcome other valid. line_once look f f.progress line outcome other valid;
  some_outcome = λ f line valid. line_comes look f f.progress line valid;
  one_end = λ f outcome other valid. end_once f f.progress outcome other;
  some_end = λ f valid. end_comes f f.progress;
}
