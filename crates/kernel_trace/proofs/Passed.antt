-- What is read of a trace are its passages.
use Rattle.std.proofs.Common.{◌≡◌, ℕ, zero, suc, ◌+◌, Bool, true, false, List, [], ◌∷◌, ◌++◌, length, take, None, refl, sym, ap, ◌∙◌, subst}
use Rattle.std.proofs.Common.{◌≤◌, inl, inr, append_assoc, append-nil, arith}
use Rattle.std.specs.Prelude.{All, map, option_to_list, slice_index_or, if◌then◌else◌}
use Rattle.std.proofs.Math.ListN.{get_or-map}
use Rattle.std.proofs.lemmas.List.{length-map, map-append}
use Rattle.std.proofs.lemmas.List.Elements.{All-nil}
use Rattle.text_fields.specs.Lines.{lines_of, fields_of}
use Rattle.text_fields.specs.Machine.{Outcome, Leads, Fails, Answer, IsText, Refuses, answer_at_end, IsAnswer}
use Rattle.kernel_trace.specs.Course.{CourseData, says_ready, is_mentioned, names_task}
use Rattle.kernel_trace.specs.Import.{mentions_said, mentions_in, is_last_in, IsHead}
use Rattle.task_set.specs.TaskSet.{SetData}
use Rattle.kernel_trace.specs.Passage.{task_of, FollowingData, FollowingOutcome, TaskTraceData, clock_of, trace_of, IsFollowed}
use Rattle.kernel_trace.specs.Passage.{IsFollowedEnd}
use Rattle.kernel_trace.specs.Passage.{IsLineAt, IsEndAt, IsOfHead}
use Rattle.kernel_trace.specs.Passages.{UsedLine, used_said, used_lines, from_turn, passages_since, passages_in, all_changes, NeverFall}
use Rattle.kernel_trace.specs.Passages.{unlisted_of, AllTurn, IsPassageOf, IsTaskTrace, PassagesAreFaithful}
use Rattle.kernel_trace.specs.Processor.{processor_of}
use Rattle.kernel_trace.specs.Reading.{IsCourse}
use Rattle.kernel_trace.specs.Survey.{SurveyData, survey_of, is_gap}
use Rattle.kernel_trace.specs.TraceLine.{Said as SaidData, said_by}
use Rattle.kernel_trace.specs.TraceText.{Progress, HeaderExpected, ProcessorsExpected, Listed, Tracing, IsLine}
use Rattle.kernel_trace.specs.Unlisted.{number_of, number_read, settled_passage}
use Rattle.trace_passages.specs.declared.passage.Readiness.{Readiness}
use Rattle.kernel_trace.specs.declared.change.Standing.TheVariants.{Unmentioned}
use Rattle.kernel_trace.specs.declared.fault.TraceKind.{TraceKind}
use Rattle.kernel_trace.specs.declared.fault.TraceKind.TheVariants.{NoEvents, Overwritten, NothingSaid}
use Rattle.trace_passages.specs.declared.passage.Passage.{Passage}
use Rattle.kernel_trace.proofs.Followed.{head_leads, faulty}
use Rattle.kernel_trace.proofs.HeadSplit.{Begun, Split, LedOn, head_split}
use Rattle.kernel_trace.proofs.InOrder.{passages_in_order}
use Rattle.kernel_trace.proofs.Kept.{Kept, Stepped, said_steps}
use Rattle.kernel_trace.proofs.ReadPassages.{IsReadOf, settled_within}
use Rattle.kernel_trace.proofs.Settled.{IsId, unlisted_few, unlisted_ids, one_apart, one_start, passages_settled}

abbrev IsRest : SurveyData → ℕ → FollowingData → List (List ℕ) → TaskTraceData → Type 0
IsRest look number f lines trace = IsAnswer (IsFollowed look) IsFollowedEnd number f lines (IsText trace)

refused_text : {A : Type 0} (trace : TaskTraceData) (number : ℕ) (kind : TraceKind)
    → ◌≡◌ {A = Answer TaskTraceData TraceKind} (IsText trace) (Refuses number kind) → A
refused_text trace number kind e = cc

-- a line that leads on has no gap before it
whole_leads : (b : Bool) (f next : FollowingData) (outcome : FollowingOutcome)
    → ◌≡◌ {A = FollowingOutcome} (Leads next) (if b then Fails Overwritten else outcome) → ◌≡◌ {A = FollowingOutcome} (Leads next) outcome
whole_leads true f next outcome e = faulty next Overwritten e
whole_leads false f next outcome e = e

-- ---- lines of the trace
module _ (look : SurveyData) (head : CourseData) (trace : TaskTraceData) where
  abbrev made : List Readiness → List (List ℕ) → List Readiness
  made ms lines = ms ++ mentions_in look.waking head.ids head.window lines

  abbrev met : List Readiness → List UsedLine → List (List ℕ) → List UsedLine
  met ms used lines = used ++ used_lines look.waking head.ids (number_read head.ids) head.window ms lines

  -- a passage with the numbers of the end
  abbrev ended : Passage → Passage
  ended = settled_passage (length head.ids) trace.unlisted

  -- one line
  line_steps : (c : CourseData) (f next : FollowingData) (ms : List Readiness) (used : List UsedLine) (line : List ℕ)
      → f.progress ≡ Tracing c
      → Kept head c f ms used → IsFollowed look f line (Leads next)
      → Stepped head f.passages next (ms ++ mentions_said head.ids head.window (said_by look.waking (fields_of line)))
      (used ++ used_said head.ids (number_read head.ids) head.window ms (said_by look.waking (fields_of line))
      (processor_of look.waking (fields_of line)))
  line_steps c f next ms used line expects kept comes =
      said_steps head c f next ms used kept (said_by look.waking (fields_of line)) (processor_of look.waking (fields_of line)) expects
      (whole_leads (is_gap look c.window (fields_of line)) f next _
      (subst (λ (p : Progress). IsLineAt look f p line (Leads next)) expects comes))

  at_end : (b : Bool) (number : ℕ) (f : FollowingData) (c : CourseData) (last : Outcome TaskTraceData TraceKind)
      → last ≡ (if b then Leads (trace_of f c) else Fails NothingSaid)
      → ◌≡◌ {A = Answer TaskTraceData TraceKind} (IsText trace) (answer_at_end number last) → trace ≡ trace_of f c
  at_end true number f c last ends e = same (e ∙ ap (answer_at_end number) ends)
    where
      same : ◌≡◌ {A = Answer TaskTraceData TraceKind} (IsText trace) (IsText (trace_of f c))
          → trace ≡ trace_of f c
      same e = cc
  at_end false number f c last ends e = refused_text trace number NothingSaid (e ∙ ap (answer_at_end number) ends)

  -- what is known after all lines
  record Whole (ms : List Readiness) (used : List UsedLine) (before : List Passage) : Type 0 where
    course : CourseData
    found : FollowingData
    is : trace ≡ trace_of found course
    kept : Kept head course found ms used
    settles : trace.passages ≡ map ended found.passages
    later : List Passage
    grows : found.passages ≡ before ++ later

  settled_at_end : (c : CourseData) (f : FollowingData) (ms : List Readiness) (used : List UsedLine) → Kept head c f ms used
      → trace ≡ trace_of f c → trace.passages ≡ map ended f.passages
  settled_at_end c f ms used kept is =
      let valid = kept.valid in
      let count : length c.set.tasks ≡ length head.ids = sym valid.ids ∙ ap (λ (ids : List ℕ). length ids) kept.ids in
      let apart : f.unlisted ≡ trace.unlisted = sym (ap (λ (t : TaskTraceData). t.unlisted) is) in
      ap (λ (t : TaskTraceData). t.passages) is
      ∙ ap (λ (tasks : ℕ). map (settled_passage tasks f.unlisted) f.passages) count
      ∙ ap (λ (unlisted : List ℕ). map (settled_passage (length head.ids) unlisted) f.passages) apart

  whole : (number : ℕ) (c : CourseData) (f : FollowingData) (ms : List Readiness) (used : List UsedLine) (lines : List (List ℕ))
      → f.progress ≡ Tracing c
      → Kept head c f ms used → IsRest look number f lines trace → Whole (made ms lines) (met ms used lines) f.passages
  whole number c f ms used [] expects kept (last, ends, e) =
      let is = at_end (names_task c.standings) number f c last (subst (λ (p : Progress). IsEndAt f p last) expects ends) e in
      subst (λ (all : List Readiness). Whole all (used ++ []) f.passages) (sym (append-nil ms))
      (subst (λ (all : List UsedLine). Whole ms all f.passages) (sym (append-nil used))
      (record {
        course = c;
        found = f;
        is = is;
        kept = kept;
        settles = settled_at_end c f ms used kept is;
        later = [];
        grows = sym (append-nil f.passages);
      }))
  whole number c f ms used (line ∷ rest) expects kept (inl (kind, comes, e)) = refused_text trace number kind e
  whole number c f ms used (line ∷ rest) expects kept (inr (next, comes, answer)) =
      let said : SaidData = said_by look.waking (fields_of line) in
      let step = line_steps c f next ms used line expects kept comes in
      let told = mentions_said head.ids head.window said in
      let seen = used_said head.ids (number_read head.ids) head.window ms said (processor_of look.waking (fields_of line)) in
      let later = whole (number + 1) step.course next (ms ++ told) (used ++ seen) rest step.expects step.kept answer in
      let all : Whole (made ms (line ∷ rest)) (met ms used (line ∷ rest)) next.passages =
      subst (λ (ms_all : List Readiness). Whole ms_all (met ms used (line ∷ rest)) next.passages)
      (append_assoc ms told (mentions_in look.waking head.ids head.window rest))
      (subst (λ (used_all : List UsedLine). Whole (made (ms ++ told) rest) used_all next.passages)
      (append_assoc used seen (used_lines look.waking head.ids (number_read head.ids) head.window (ms ++ told) rest)) later) in
      record {
        course = all.course;
        found = all.found;
        is = all.is;
        kept = all.kept;
        settles = all.settles;
        later = step.later ++ all.later;
        grows = all.grows ∙ ap (λ (before : List Passage). before ++ all.later) step.grows ∙ append_assoc f.passages step.later all.later;
      }

  -- their changes and moments are as they were
  changes_ended : (passages : List Passage) → all_changes (map ended passages) ≡ all_changes passages
  changes_ended [] = refl
  changes_ended (passage ∷ rest) =
      ap (λ (more : List Readiness). option_to_list passage.first ++ option_to_list passage.second ++ more) (changes_ended rest)

  fall_ended : (moment : ℕ) (passages : List Passage) → NeverFall moment passages → NeverFall moment (map ended passages)
  fall_ended moment [] falls = falls
  fall_ended moment (passage ∷ rest) falls = (falls.0, fall_ended passage.moment rest falls.1)

  -- the first passages are those of some first lines
  record First (ms : List Readiness) (used : List UsedLine) : Type 0 where
    passages : List Passage
    later : List Passage
    order : trace.passages ≡ passages ++ later
    exact : passages ≡ map ended (passages_since (from_turn used))
    ready : (t : ℕ) → is_last_in t (all_changes passages) ≡ is_last_in t ms

  here : (number : ℕ) (c : CourseData) (f : FollowingData) (ms : List Readiness) (used : List UsedLine) (lines : List (List ℕ))
      → f.progress ≡ Tracing c
      → Kept head c f ms used → IsRest look number f lines trace → First (ms ++ []) (used ++ [])
  here number c f ms used lines expects kept answer =
      let all = whole number c f ms used lines expects kept answer in
      subst (λ (all : List Readiness). First all (used ++ [])) (sym (append-nil ms))
      (subst (First ms) (sym (append-nil used))
      (record {
        passages = map ended f.passages;
        later = map ended all.later;
        order = all.settles ∙ ap (map ended) all.grows ∙ map-append ended f.passages all.later;
        exact = ap (map ended) kept.passages;
        ready = λ t. (ap (is_last_in t) (changes_ended f.passages) ∙ kept.told t ∙ sym (kept.said t));
      }))

  each : (n number : ℕ) (c : CourseData) (f : FollowingData) (ms : List Readiness) (used : List UsedLine) (lines : List (List ℕ))
      → f.progress ≡ Tracing c
      → Kept head c f ms used → IsRest look number f lines trace → First (made ms (take n lines)) (met ms used (take n lines))
  each zero number c f ms used lines expects kept answer = here number c f ms used lines expects kept answer
  each (suc n) number c f ms used [] expects kept answer = here number c f ms used [] expects kept answer
  each (suc n) number c f ms used (line ∷ rest) expects kept (inl (kind, comes, e)) = refused_text trace number kind e
  each (suc n) number c f ms used (line ∷ rest) expects kept (inr (next, comes, answer)) =
      let said : SaidData = said_by look.waking (fields_of line) in
      let step = line_steps c f next ms used line expects kept comes in
      let told = mentions_said head.ids head.window said in
      let seen = used_said head.ids (number_read head.ids) head.window ms said (processor_of look.waking (fields_of line)) in
      let later = each n (number + 1) step.course next (ms ++ told) (used ++ seen) rest step.expects step.kept answer in
      subst (λ (all : List Readiness). First all (met ms used (line ∷ take n rest)))
      (append_assoc ms told (mentions_in look.waking head.ids head.window (take n rest)))
      (subst (First (made (ms ++ told) (take n rest)))
      (append_assoc used seen (used_lines look.waking head.ids (number_read head.ids) head.window (ms ++ told) (take n rest))) later)

  -- from a head on
  head_kept : IsHead head → IsCourse head → Kept head head (record { progress = Tracing head; start = None; passages = []; unlisted = [] })
      [] []
  head_kept is valid = record {
    set = refl;
    ids = refl;
    window = refl;
    valid = valid;
    said = λ t. sym (ap says_ready (is.unmentioned t));
    named = λ t. ap is_mentioned (is.unmentioned t);
    told = λ t. sym (ap says_ready (is.unmentioned t));
    passages = refl;
    start = refl;
    turned = tt;
    rising = tt;
    since = refl;
    of_set = All-nil (IsReadOf (length head.set.tasks));
    apart = refl;
  }

-- ---- the head
abbrev at_head : Progress → FollowingData
at_head p = record { progress = p; start = None; passages = []; unlisted = [] }

-- the answer to some lines after a head that leads so far is this trace
abbrev IsHeaded : SurveyData → TaskTraceData → ℕ → Progress → List (List ℕ) → Type 0
IsHeaded look trace number p lines = IsRest look number (at_head p) lines trace

module _ (look : SurveyData) (trace : TaskTraceData) where
  no_end : (number : ℕ) (p : Progress) → Begun p → IsHeaded look trace number p [] → ⊥
  no_end number HeaderExpected begun (last, ends, e) = refused_text trace number NoEvents (e ∙ ap (answer_at_end number) ends)
  no_end number ProcessorsExpected begun (last, ends, e) = refused_text trace number NoEvents (e ∙ ap (answer_at_end number) ends)
  no_end number (Listed c) begun (last, ends, e) = refused_text trace number NoEvents (e ∙ ap (answer_at_end number) ends)
  no_end number (Tracing c) begun follows = absurd begun

  -- a line of the head leads on as for an input
  of_head : (p : Progress) (line : List ℕ) (next : FollowingData) → IsOfHead (at_head p) (IsLine look p line) (Leads next)
      → (to : Progress) × IsLine look p line (Leads to) × (next ≡ at_head to)
  of_head p line next (head, comes, e) =
      let leads = head_leads (at_head p) next head e in (leads.0, subst (IsLine look p line) leads.1 comes, leads.2)

  followed_head : (p : Progress) (line : List ℕ) (next : FollowingData) → Begun p → IsFollowed look (at_head p) line (Leads next)
      → (to : Progress) × IsLine look p line (Leads to) × (next ≡ at_head to)
  followed_head HeaderExpected line next begun comes = of_head HeaderExpected line next comes
  followed_head ProcessorsExpected line next begun comes = of_head ProcessorsExpected line next comes
  followed_head (Listed c) line next begun comes = of_head (Listed c) line next comes
  followed_head (Tracing c) line next begun comes = absurd begun

  line_leads : (number : ℕ) (p : Progress) (line : List ℕ) (rest : List (List ℕ)) → Begun p → IsHeaded look trace number p (line ∷ rest)
      → LedOn look (IsHeaded look trace) number p line rest
  line_leads number p line rest begun (inl (kind, comes, e)) = refused_text trace number kind e
  line_leads number p line rest begun (inr (next, comes, answer)) =
      let to = followed_head p line next begun comes in
      (to.0, to.1, subst (λ (f : FollowingData). IsRest look (number + 1) f rest trace) to.2 answer)

-- ---- the trace
of_split : (bytes : List ℕ) (trace : TaskTraceData)
    → (let look = survey_of (lines_of bytes) in Split look (IsHeaded look trace) HeaderExpected (lines_of bytes)) → IsTaskTrace bytes trace
of_split bytes trace split =
    let look : SurveyData = survey_of (lines_of bytes) in
    let head : CourseData = split.head in
    let start = head_kept look head trace split.is_head split.valid in
    let all = whole look head trace split.number head (at_head (Tracing head)) [] [] split.rest refl start split.answer in
    let kept = all.kept in
    let valid = kept.valid in
    let used : List UsedLine = used_lines look.waking head.ids (number_read head.ids) head.window [] split.rest in
    let read : trace.unlisted ≡ unlisted_of head.ids used = ap (λ (t : TaskTraceData). t.unlisted) all.is ∙ kept.apart in
    let ids : All IsId trace.unlisted = subst (All IsId) (sym read) (unlisted_ids head.ids used) in
    let set : trace.set ≡ head.set = ap (λ (t : TaskTraceData). t.set) all.is ∙ kept.set in
    let count : length head.ids ≡ length trace.set.tasks =
    (let first = split.valid in first.ids ∙ ap (λ (s : SetData). length s.tasks) (sym set)) in
    let settled : (lines : List (List ℕ))
    → map (ended look head trace) (passages_since (from_turn (used_lines look.waking head.ids (number_read head.ids) head.window [] lines)))
    ≡ passages_in look.waking head.ids (number_of head.ids trace.unlisted) head.window lines =
    λ lines. passages_settled look.waking head.ids trace.unlisted head.window lines ids in
    let exact : trace.passages ≡ passages_in look.waking head.ids (number_of head.ids trace.unlisted) head.window split.rest =
    all.settles ∙ ap (map (ended look head trace)) kept.passages ∙ settled split.rest in
    let rising : NeverFall 0 trace.passages =
    subst (NeverFall 0) (sym all.settles) (fall_ended look head trace 0 all.found.passages kept.rising) in
    let of_set : All (IsPassageOf (length trace.set.tasks) (length trace.set.tasks + length trace.unlisted)) trace.passages =
    subst (λ (tasks : ℕ). All (IsPassageOf tasks (tasks + length trace.unlisted)) trace.passages) count
    (subst (λ (p : List Passage). All (IsPassageOf (length head.ids) (length head.ids + length trace.unlisted)) p) (sym all.settles)
    (settled_within (length head.ids) trace.unlisted all.found.passages
    (subst (λ (tasks : ℕ). All (IsReadOf tasks) all.found.passages) (sym valid.ids ∙ ap (λ (list : List ℕ). length list) kept.ids)
    kept.of_set))) in
    record {
      look = look;
      surveyed = refl;
      heading = split.heading;
      opening = split.opening;
      lines = split.rest;
      head = head;
      order = split.order;
      heads = split.heads;
      opens = split.opens;
      no_line = split.is_head;
      set = set;
      clock = ap (λ (t : TaskTraceData). t.clock) all.is ∙ ap clock_of (kept.start
          ∙ one_start look.waking head.ids (number_read head.ids) (task_of head.ids) head.window split.rest);
      unlisted = read ∙ one_apart look.waking head.ids (number_read head.ids) (task_of head.ids) head.window split.rest;
      few = subst (λ (unlisted : List ℕ). length unlisted ≤ 1024) (sym read) (unlisted_few head.ids used);
      passages = exact;
      counted =
          subst (λ (t : TaskTraceData). length t.mentioned ≡ length t.set.tasks) (sym all.is)
          (length-map all.course.standings is_mentioned ∙ valid.standings);
      mentioned = λ t.
          (ap (λ (found : TaskTraceData). slice_index_or found.mentioned t false) all.is
          ∙ get_or-map is_mentioned all.course.standings t Unmentioned
          ∙ kept.named t);
      each = λ n.
          (let first = each look head trace n split.number head (at_head (Tracing head)) [] [] split.rest refl start split.answer in
          record {
            passages = first.passages;
            later = first.later;
            order = first.order;
            exact = first.exact ∙ settled (take n split.rest);
            ready = first.ready;
          });
      rising = rising;
      changing =
          subst (λ (p : List Passage). AllTurn [] (all_changes p)) (sym all.settles)
          (subst (AllTurn []) (sym (changes_ended look head trace all.found.passages)) kept.turned);
      of_set = of_set;
      in_order =
          passages_in_order (length trace.set.tasks) (length trace.set.tasks + length trace.unlisted)
          (from_turn (used_lines look.waking head.ids (number_of head.ids trace.unlisted) head.window [] split.rest))
          trace.passages exact rising (omega arith) of_set;
    }

pub passages_are_faithful : PassagesAreFaithful
passages_are_faithful bytes trace is =
    let look : SurveyData = survey_of (lines_of bytes) in
    of_split bytes trace (head_split look (IsHeaded look trace) (no_end look trace) (line_leads look trace) 1 HeaderExpected
    (lines_of bytes) tt tt is)
