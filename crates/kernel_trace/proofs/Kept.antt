-- The passages that are kept are those of the lines.
use Rattle.std.proofs.Common.{◌≡◌, ℕ, ◌+◌, ◌<◌, ◌≤◌, Bool, true, false, nat_lt, nat_eq, List, [], ◌∷◌, ◌++◌, length, Option, None, Some}
use Rattle.std.proofs.Common.{refl, sym, ap, ◌∙◌, subst, arith, append_assoc, append-nil}
use Rattle.std.specs.Prelude.{All, position, is_some, ◌||◌, option_to_list, if◌then◌else◌}
use Rattle.std.specs.Option.{ForSome, option_map}
use Rattle.std.proofs.lemmas.Bool.{ltb-true}
use Rattle.std.proofs.lemmas.List.Elements.{All-push}
use Rattle.std.proofs.lemmas.List.Sums.{fold-append}
use Rattle.text_fields.specs.Machine.{Leads, Fails}
use Rattle.task_set.specs.TaskSet.{SetData}
use Rattle.kernel_trace.specs.Course.{CourseData, WindowData, mentions, is_unseen, is_backward, is_in_window}
use Rattle.kernel_trace.specs.Import.{mentions_said}
use Rattle.kernel_trace.specs.Passage.{task_of, task_change, turn_of, first_mention, second_mention, changing, marked, FollowingData}
use Rattle.kernel_trace.specs.Passage.{FollowingOutcome, after_marks, start_after, kept_outcome, marked_outcome, used_outcome}
use Rattle.kernel_trace.specs.Passage.{timed_outcome, told_outcome, said_outcome, span_of}
use Rattle.kernel_trace.specs.Passages.{UsedLine, turning, used_line, used_told, used_said, turns, from_turn, first_use, passage_since}
use Rattle.kernel_trace.specs.Passages.{passages_since, unlisted_of, all_changes, AllTurn, NeverFall}
use Rattle.kernel_trace.specs.Reading.{IsCourse}
use Rattle.kernel_trace.specs.Stamp.{microsecond}
use Rattle.kernel_trace.specs.TraceLine.{Said as SaidData, Nothing, LostEvents, Malformed, Happened}
use Rattle.kernel_trace.specs.TraceText.{Tracing}
use Rattle.kernel_trace.specs.Unlisted.{with_said, number_read}
use Rattle.kernel_trace.specs.declared.change.Change.{Change}
use Rattle.kernel_trace.specs.declared.change.Change.TheVariants.{Wakeup, Switch}
use Rattle.trace_passages.specs.declared.passage.Readiness.{Readiness}
use Rattle.kernel_trace.specs.declared.change.Standing.{Standing}
use Rattle.kernel_trace.specs.declared.fault.TraceKind.TheVariants.{Lost, BadForm, Backward, Unseen, ManyEvents}
use Rattle.trace_passages.specs.declared.passage.Passage.{Passage}
use Rattle.kernel_trace.specs.declared.task_change.TaskChange.{TaskChange}
use Rattle.kernel_trace.specs.declared.task_change.TaskChange.TheVariants as task
use Rattle.kernel_trace.proofs.Decided.{not_above, with_times, with_last}
use Rattle.kernel_trace.proofs.Followed.{same_following, faulty, marks_valid}
use Rattle.kernel_trace.proofs.Positions.{position_some}
use Rattle.kernel_trace.proofs.ReadPassages.{IsWokenOf, IsReadOf}
use Rattle.kernel_trace.proofs.Turns.{Said, Named, IsKnown, mark_said, mark_named, changing_is, change_said, turn_append, change_turns}
use Rattle.kernel_trace.proofs.Turns.{mentions_are, from_none, from_some, passages_more, changes_append, span_append, fall_append}

-- ---- tasks of a line
mention_known : (count : ℕ) (is_in : Bool) (found : Option ℕ) → ((k : ℕ) → found ≡ Some k → k < count)
    → ForSome (option_map (λ (task : ℕ). record { task = task; is_in = is_in }) found) (λ (m : Readiness). m.task < count)
mention_known count is_in None within m e = cc
mention_known count is_in (Some k) within m e = let same : k ≡ m.task = cc in subst (λ (t : ℕ). t < count) same (within k refl)

task_within : (ids : List ℕ) (id k : ℕ) → position (nat_eq id) ids ≡ Some k → k < length ids
task_within ids id k e = (position_some (nat_eq id) ids k (sym e)).1

first_known : (ids : List ℕ) (change : Change) → ForSome (first_mention ids change) (λ (m : Readiness). m.task < length ids)
first_known ids (Wakeup id) = mention_known (length ids) true (position (nat_eq id) ids) (task_within ids id)
first_known ids (Switch from stays to) = mention_known (length ids) stays (position (nat_eq from.id) ids) (task_within ids from.id)

none_known : (count : ℕ) → ForSome {T = Readiness} None (λ (m : Readiness). m.task < count)
none_known count m e = cc

second_known : (ids : List ℕ) (change : Change) → ForSome (second_mention ids change) (λ (m : Readiness). m.task < length ids)
second_known ids (Wakeup id) = none_known (length ids)
second_known ids (Switch from stays to) = mention_known (length ids) true (position (nat_eq to.id) ids) (task_within ids to.id)

changing_known : (count : ℕ) (standings : List Standing) (m : Option Readiness) → ForSome m (λ (m : Readiness). m.task < count)
    → ForSome (changing standings m) (λ (m : Readiness). m.task < count)
changing_known count standings None known x e = cc
changing_known count standings (Some m) known x e = by _ e
  where
    by : (b : Bool) → (if b then None else Some m) ≡ Some x → x.task < count
    by true e = cc
    by false e = known x e

-- a thread that wakes up is one of the first so many tasks
abbrev IsAboutTasks : ℕ → TaskChange → Type 0
IsAboutTasks count (task.Wakeup woken) = ForSome woken (λ t. t < count)
IsAboutTasks count (task.Switch processor from to) = Unit {0}

-- and so it is in what the line says of who runs where
turn_about : (count : ℕ) (told : TaskChange) (first : Option Readiness) → IsAboutTasks count told
    → IsWokenOf count (turn_of told first)
turn_about count (task.Wakeup None) first about = tt
turn_about count (task.Wakeup (Some woken)) None about = tt
turn_about count (task.Wakeup (Some woken)) (Some mention) about = about woken refl
turn_about count (task.Switch processor from to) first about = tt

told_about : (ids : List ℕ) (number : ℕ → Option ℕ) (change : Change) (processor : Option ℕ) (told : TaskChange)
    → task_change ids number change processor ≡ Some told
    → IsAboutTasks (length ids) told
told_about ids number (Wakeup id) processor told e =
    let same : task.Wakeup (task_of ids id) ≡ told = cc in
    subst (IsAboutTasks (length ids)) same (task_within ids id)
told_about ids number (Switch from stays to) None told e = cc
told_about ids number (Switch from stays to) (Some processor) told e =
    let same : task.Switch processor (number from.id) (number to.id) ≡ told = cc in
    subst (IsAboutTasks (length ids)) same tt

-- ---- what is known beside the used lines and their mentions
-- the last passage is not after the last line
abbrev IsSince : Option ℕ → Option ℕ → ℕ → Type 0
IsSince None last span = span ≡ 0
IsSince (Some start) None span = ⊥
IsSince (Some start) (Some last) span = microsecond start + span ≤ microsecond last

since_later : (start last : Option ℕ) (span time : ℕ) → IsSince start last span → is_backward last time ≡ false
    → IsSince start (Some time) span
since_later None last span time since forward = since
since_later (Some start) None span time since forward = absurd since
since_later (Some start) (Some last) span time since forward = let most = not_above time last forward in omega (arith, since, most)

pub record Kept (head c : CourseData) (f : FollowingData) (ms : List Readiness) (used : List UsedLine) : Type 0 where
  pub set : c.set ≡ head.set
  pub ids : c.ids ≡ head.ids
  pub window : c.window ≡ head.window
  pub valid : IsCourse c
  pub said : Said c.standings ms
  pub named : Named c.standings ms
  pub told : Said c.standings (all_changes f.passages)
  pub passages : f.passages ≡ passages_since (from_turn used)
  pub start : f.start ≡ first_use (from_turn used)
  pub turned : AllTurn [] (all_changes f.passages)
  pub rising : NeverFall 0 f.passages
  pub since : IsSince f.start c.last (span_of f.passages)
  pub of_set : All (IsReadOf (length c.set.tasks)) f.passages
  pub apart : f.unlisted ≡ unlisted_of head.ids used

-- a line leads on, and what was kept before it stays
pub record Stepped (head : CourseData) (before : List Passage) (next : FollowingData) (ms : List Readiness)
    (used : List UsedLine) : Type 0 where
  pub course : CourseData
  pub expects : next.progress ≡ Tracing course
  pub kept : Kept head course next ms used
  pub later : List Passage
  pub grows : next.passages ≡ before ++ later

-- ---- a used line
module _ (head c : CourseData) (f : FollowingData) (ms : List Readiness) (used : List UsedLine) (time : ℕ) (change : Change)
    (told : TaskChange)
    (kept : Kept head c f ms used) (now : c.last ≡ Some time) (about : IsAboutTasks (length c.set.tasks) told) where
  abbrev first : Option Readiness
  first = first_mention c.ids change

  abbrev second : Option Readiness
  second = second_mention c.ids change

  abbrev between : List Standing
  between = marked c.standings first

  abbrev after : CourseData
  after = after_marks c first second

  -- with the threads of the line told apart
  abbrev known : FollowingData
  known = record f { unlisted = with_said c.ids f.unlisted change }

  -- the line with its changes
  abbrev line : UsedLine
  line = record { time = time; said = change; change = told; first = changing c.standings first; second = changing between second }

  -- its changes
  abbrev more : List Readiness
  more = option_to_list line.first ++ option_to_list line.second

  known_first : IsKnown c.standings first
  known_first =
      let valid = kept.valid in
      let same : length c.ids ≡ length c.standings = valid.ids ∙ sym valid.standings in
      subst (λ (n : ℕ). ForSome first (λ (m : Readiness). m.task < n)) same (first_known c.ids change)

  known_second : IsKnown between second
  known_second =
      let valid = marks_valid c first None kept.valid in
      let same : length c.ids ≡ length between = valid.ids ∙ sym valid.standings in
      subst (λ (n : ℕ). ForSome second (λ (m : Readiness). m.task < n)) same (second_known c.ids change)

  said_then : Said after.standings (ms ++ mentions c.ids change)
  said_then =
      subst (Said after.standings)
      (append_assoc ms (option_to_list first) (option_to_list second)
      ∙ ap (λ (all : List Readiness). ms ++ all) (sym (mentions_are c.ids change)))
      (mark_said between (ms ++ option_to_list first) second known_second (mark_said c.standings ms first known_first kept.said))

  named_then : Named after.standings (ms ++ mentions c.ids change)
  named_then =
      subst (Named after.standings)
      (append_assoc ms (option_to_list first) (option_to_list second)
      ∙ ap (λ (all : List Readiness). ms ++ all) (sym (mentions_are c.ids change)))
      (mark_named between (ms ++ option_to_list first) second known_second (mark_named c.standings ms first known_first kept.named))

  told_first : Said between (all_changes f.passages ++ option_to_list line.first)
  told_first = change_said c.standings (all_changes f.passages) first known_first kept.told

  told_then : Said after.standings (all_changes f.passages ++ more)
  told_then =
      subst (Said after.standings) (append_assoc (all_changes f.passages) (option_to_list line.first) (option_to_list line.second))
      (change_said between (all_changes f.passages ++ option_to_list line.first) second known_second told_first)

  turned_then : AllTurn [] (all_changes f.passages ++ more)
  turned_then =
      let one = change_turns c.standings (all_changes f.passages) first kept.told in
      let two = change_turns between (all_changes f.passages ++ option_to_list line.first) second told_first in
      turn_append [] (all_changes f.passages) more kept.turned
      (turn_append (all_changes f.passages) (option_to_list line.first) (option_to_list line.second) one two)

  -- the line is the one that the mentions before it make
  line_is : line ≡ used_line c.ids ms time change told
  line_is =
      let made : Option Readiness → Option Readiness
      → UsedLine = λ one two. record { time = time; said = change; change = told; first = one; second = two } in
      ap (λ (one : Option Readiness). made one (changing between second)) (changing_is c.standings ms first kept.said)
      ∙ ap (made (turning ms first)) (changing_is between (ms ++ option_to_list first) second
      (mark_said c.standings ms first known_first kept.said))

  -- the threads that are told apart with it
  apart_then : known.unlisted ≡ unlisted_of head.ids (used ++ line ∷ [])
  apart_then =
      ap (λ (before : List ℕ). with_said c.ids before change) kept.apart
      ∙ ap (λ (ids : List ℕ). with_said ids (unlisted_of head.ids used) change) kept.ids
      ∙ sym (fold-append (λ (so_far : List ℕ) (line : UsedLine). with_said head.ids so_far line.said) [] used (line ∷ []))

  -- one passage more
  module _ (start : ℕ) (lines : List UsedLine) (from : from_turn (used ++ line ∷ []) ≡ lines) (begins : first_use lines ≡ Some start)
      (all : passages_since lines ≡ f.passages ++ passage_since start line ∷ [])
      (since : microsecond start + span_of f.passages ≤ microsecond time) where
    abbrev passage : Passage
    passage = passage_since start line

    abbrev next : FollowingData
    next = record known { progress = Tracing after; start = Some start; passages = f.passages ++ passage ∷ [] }

    changes_then : all_changes f.passages ++ more ≡ all_changes next.passages
    changes_then =
        ap (λ (last : List Readiness). all_changes f.passages ++ last) (sym (append-nil more))
        ∙ sym (changes_append f.passages (passage ∷ []))

    in_time : passage.moment < 9223372036854775808 → IsReadOf (length c.set.tasks) passage
    in_time short =
        let valid = kept.valid in
        record {
          woken = turn_about (length c.set.tasks) told line.first about;
          first = subst (λ (n : ℕ). ForSome line.first (λ (m : Readiness). m.task < n)) valid.ids
              (changing_known (length c.ids) c.standings first (first_known c.ids change));
          second = subst (λ (n : ℕ). ForSome line.second (λ (m : Readiness). m.task < n)) valid.ids
              (changing_known (length c.ids) between second (second_known c.ids change));
          moment = short;
        }

    kept_then : passage.moment < 9223372036854775808 → Kept head after next (ms ++ mentions c.ids change) (used ++ line ∷ [])
    kept_then short = record {
      set = kept.set;
      ids = kept.ids;
      window = kept.window;
      valid = marks_valid c first second kept.valid;
      said = said_then;
      named = named_then;
      told = subst (Said after.standings) changes_then told_then;
      passages = sym all ∙ ap passages_since (sym from);
      start = sym begins ∙ ap first_use (sym from);
      turned = subst (AllTurn []) changes_then turned_then;
      rising = fall_append 0 f.passages passage (omega arith) kept.rising (omega (arith, since));
      since =
          subst (λ (last : Option ℕ). IsSince (Some start) last (span_of next.passages)) (sym now)
          (let whole = span_append f.passages passage in omega (arith, whole, since));
      of_set = All-push (IsReadOf (length c.set.tasks)) f.passages passage kept.of_set (in_time short);
      apart = apart_then;
    }

    passage_steps : (b : Bool) (found : FollowingData) → nat_lt passage.moment 9223372036854775808 ≡ b
        → ◌≡◌ {A = FollowingOutcome} (Leads found) (if b then Leads next else Fails ManyEvents)
        → Stepped head f.passages found (ms ++ mentions c.ids change) (used ++ line ∷ [])
    passage_steps true found short e =
        subst (λ (found : FollowingData). Stepped head f.passages found (ms ++ mentions c.ids change) (used ++ line ∷ []))
        (sym (same_following found next e))
        (record {
          course = after;
          expects = refl;
          kept = kept_then (ltb-true passage.moment 9223372036854775808 short);
          later = passage ∷ [];
          grows = refl;
        })
    passage_steps false found long e = faulty found ManyEvents e

  abbrev Steps : FollowingData → Type 0
  Steps found = Stepped head f.passages found (ms ++ mentions c.ids change) (used ++ line ∷ [])

  -- there was a change before
  started : (start : ℕ) (lines : List UsedLine) (found : FollowingData) → f.start ≡ Some start → from_turn used ≡ lines
      → ◌≡◌ {A = FollowingOutcome} (Leads found)
      (kept_outcome (record known { progress = Tracing after }) (Some start) time told line.first line.second)
      → Steps found
  started start [] found begins from e =
      let none : ◌≡◌ {A = Option ℕ} (Some start) None = sym begins ∙ kept.start ∙ ap first_use from in cc
  started start (one ∷ rest) found begins from e =
      let some : Some start ≡ Some one.time = sym begins ∙ kept.start ∙ ap first_use from in
      let same : one.time ≡ start = cc in
      let since : microsecond start + span_of f.passages ≤ microsecond time =
      subst (λ (last : Option ℕ). IsSince (Some start) last (span_of f.passages)) now
      (subst (λ (begins : Option ℕ). IsSince begins c.last (span_of f.passages)) begins kept.since) in
      let all : passages_since (one ∷ (rest ++ line ∷ [])) ≡ f.passages ++ passage_since start line ∷ [] =
      passages_more one rest line
      ∙ ap (λ (before : List Passage). before ++ passage_since one.time line ∷ []) (sym (kept.passages ∙ ap passages_since from))
      ∙ ap (λ (n : ℕ). f.passages ++ passage_since n line ∷ []) same in
      passage_steps start (one ∷ (rest ++ line ∷ [])) (from_some used line one rest from) (ap Some same) all since _ found refl e

  -- there was none
  nothing_yet : (lines : List UsedLine) → f.start ≡ None → from_turn used ≡ lines → from_turn used ≡ []
  nothing_yet [] begins from = from
  nothing_yet (one ∷ rest) begins from =
      let none : ◌≡◌ {A = Option ℕ} None (Some one.time) = sym begins ∙ kept.start ∙ ap first_use from in cc

  starting : (changes : Bool) (found : FollowingData) → f.start ≡ None → turns line ≡ changes
      → ◌≡◌ {A = FollowingOutcome} (Leads found)
      (kept_outcome (record known { progress = Tracing after }) (start_after None changes time) time told line.first line.second)
      → Steps found
  starting true found begins does e =
      let none = nothing_yet (from_turn used) begins refl in
      let nothing : f.passages ≡ [] = kept.passages ∙ ap passages_since none in
      let from : from_turn (used ++ line ∷ []) ≡ line ∷ [] =
      from_none used line none ∙ ap (λ (b : Bool). if b then line ∷ [] else []) does in
      let all : passages_since (line ∷ []) ≡ f.passages ++ passage_since time line ∷ [] =
      ap (λ (before : List Passage). before ++ passage_since time line ∷ []) (sym nothing) in
      let empty : span_of f.passages ≡ 0 = ap span_of nothing in
      passage_steps time (line ∷ []) from refl all (omega (arith, empty)) _ found refl e
  starting false found begins does e =
      let none = nothing_yet (from_turn used) begins refl in
      let moved : FollowingData = record known { progress = Tracing after } in
      let no_more = unturned line.first line.second does in
      let from : from_turn (used ++ line ∷ []) ≡ [] = from_none used line none ∙ ap (λ (b : Bool). if b then line ∷ [] else []) does in
      subst Steps (sym (same_following found moved e))
      (record {
        course = after;
        expects = refl;
        kept = record {
          set = kept.set;
          ids = kept.ids;
          window = kept.window;
          valid = marks_valid c first second kept.valid;
          said = said_then;
          named = named_then;
          told = subst (Said after.standings) (ap (λ (last : List Readiness). all_changes f.passages ++ last) no_more
              ∙ append-nil (all_changes f.passages)) told_then;
          passages = kept.passages ∙ ap passages_since (none ∙ sym from);
          start = kept.start ∙ ap first_use (none ∙ sym from);
          turned = kept.turned;
          rising = kept.rising;
          since = kept.since;
          of_set = kept.of_set;
          apart = apart_then;
        };
        later = [];
        grows = sym (append-nil f.passages);
      })
    where
      unturned : (one two : Option Readiness) → (is_some one || is_some two) ≡ false → option_to_list one ++ option_to_list two ≡ []
      unturned None None e = refl
      unturned (Some one) two e = cc
      unturned None (Some two) e = cc

  line_steps : (found : FollowingData)
      → ◌≡◌ {A = FollowingOutcome} (Leads found)
      (kept_outcome (record known { progress = Tracing after }) (start_after f.start (turns line) time) time told line.first line.second)
      → Steps found
  line_steps found e = by f.start refl e
    where
      by : (begins : Option ℕ) → f.start ≡ begins
          → ◌≡◌ {A = FollowingOutcome} (Leads found)
          (kept_outcome (record known { progress = Tracing after }) (start_after begins (turns line) time) time told line.first line.second)
          → Steps found
      by (Some start) begins e = started start (from_turn used) found begins refl e
      by None begins e = starting (turns line) found begins refl e

  pub used_steps : (b : Bool) (found : FollowingData)
      → ◌≡◌ {A = FollowingOutcome} (Leads found) (if b then Fails Unseen else marked_outcome known c time told first second)
      → Stepped head f.passages found (ms ++ mentions c.ids change) (used ++ used_line c.ids ms time change told ∷ [])
  used_steps true found e = faulty found Unseen e
  used_steps false found e =
      subst (λ (made : UsedLine). Stepped head f.passages found (ms ++ mentions c.ids change) (used ++ made ∷ [])) line_is
      (line_steps found e)

-- ---- a line of the trace
abbrev clock_at : Bool → CourseData → ℕ → CourseData
clock_at b c time = if b then record c { last = Some time; used = Some time } else record c { last = Some time }

-- another progress of what is known
progressed : (head c d : CourseData) (f g : FollowingData) (ms : List Readiness) (used : List UsedLine) → Kept head c f ms used
    → d.set ≡ c.set → d.ids ≡ c.ids → d.window ≡ c.window → d.standings ≡ c.standings → IsCourse d
    → IsSince f.start d.last (span_of f.passages) → g.start ≡ f.start → g.passages ≡ f.passages → g.unlisted ≡ f.unlisted
    → Kept head d g ms used
progressed head c d f g ms used kept set ids window standings valid since start passages apart = record {
  set = set ∙ kept.set;
  ids = ids ∙ kept.ids;
  window = window ∙ kept.window;
  valid = valid;
  said = subst (λ (s : List Standing). Said s ms) (sym standings) kept.said;
  named = subst (λ (s : List Standing). Named s ms) (sym standings) kept.named;
  told =
      subst (λ (s : List Standing). Said s (all_changes g.passages)) (sym standings)
      (subst (λ (p : List Passage). Said c.standings (all_changes p)) (sym passages) kept.told);
  passages = passages ∙ kept.passages;
  start = start ∙ kept.start;
  turned = subst (λ (p : List Passage). AllTurn [] (all_changes p)) (sym passages) kept.turned;
  rising = subst (λ (p : List Passage). NeverFall 0 p) (sym passages) kept.rising;
  since =
      subst (λ (p : List Passage). IsSince g.start d.last (span_of p)) (sym passages)
      (subst (λ (s : Option ℕ). IsSince s d.last (span_of f.passages)) (sym start) since);
  of_set =
      subst (λ (p : List Passage). All (IsReadOf (length d.set.tasks)) p) (sym passages)
      (subst (λ (s : SetData). All (IsReadOf (length s.tasks)) f.passages) (sym set) kept.of_set);
  apart = apart ∙ kept.apart;
}

module _ (head c : CourseData) (f next : FollowingData) (ms : List Readiness) (used : List UsedLine) (kept : Kept head c f ms used) where
  clock_kept : (b : Bool) (g : FollowingData) (time : ℕ) → is_backward c.last time ≡ false → g.start ≡ f.start → g.passages ≡ f.passages
      → g.unlisted ≡ f.unlisted
      → Kept head (clock_at b c time) g ms used
  clock_kept true g time forward start passages apart =
      progressed head c (clock_at true c time) f g ms used kept refl refl refl refl (with_times c (Some time) (Some time) kept.valid)
      (since_later f.start c.last (span_of f.passages) time kept.since forward) start passages apart
  clock_kept false g time forward start passages apart =
      progressed head c (clock_at false c time) f g ms used kept refl refl refl refl (with_last c (Some time) kept.valid)
      (since_later f.start c.last (span_of f.passages) time kept.since forward) start passages apart

  -- nothing is kept of a line
  unkept : (d : CourseData) (g : FollowingData) → next ≡ g → g.progress ≡ Tracing d → g.passages ≡ f.passages → Kept head d g ms used
      → Stepped head f.passages next (ms ++ []) (used ++ [])
  unkept d g is expects passages kept_then =
      subst (λ (found : FollowingData). Stepped head f.passages found (ms ++ []) (used ++ [])) (sym is)
      (subst (λ (all : List Readiness). Stepped head f.passages g all (used ++ [])) (sym (append-nil ms))
      (subst (Stepped head f.passages g ms) (sym (append-nil used))
      (record {
        course = d;
        expects = expects;
        kept = kept_then;
        later = [];
        grows = passages ∙ sym (append-nil f.passages);
      })))

  -- a line with its form, by whether it is in the window
  timed_steps : (b : Bool) (time : ℕ) (change : Change) (told : TaskChange) → is_backward c.last time ≡ false
      → IsAboutTasks (length c.set.tasks) told
      → ◌≡◌ {A = FollowingOutcome} (Leads next)
      (if b then used_outcome f (clock_at b c time) time change told else Leads (record f { progress = Tracing (clock_at b c time) }))
      → Stepped head f.passages next (ms ++ (if b then mentions c.ids change else []))
      (used ++ (if b then used_line c.ids ms time change told ∷ [] else []))
  timed_steps true time change told forward about e =
      used_steps head (clock_at true c time) f ms used time change told (clock_kept true f time forward refl refl refl) refl about
      (is_unseen c.standings c.ids change) next e
  timed_steps false time change told forward about e =
      let later : FollowingData = record f { progress = Tracing (clock_at false c time) } in
      unkept (clock_at false c time) later (same_following next later e) refl refl (clock_kept false later time forward refl refl refl)

  -- a line with a change, by what it says of tasks
  told_steps : (told : Option TaskChange) (time : ℕ) (change : Change)
      → ((some : TaskChange) → told ≡ Some some → IsAboutTasks (length c.set.tasks) some)
      → ◌≡◌ {A = FollowingOutcome} (Leads next) (told_outcome f c time change told)
      → Stepped head f.passages next (ms ++ (if is_in_window c.window time then mentions c.ids change else []))
      (used ++ (if is_in_window c.window time then used_told c.ids ms time change told else []))
  told_steps None time change about e = faulty next BadForm e
  told_steps (Some told) time change about e = by (is_backward c.last time) refl e
    where
      by : (b : Bool) → is_backward c.last time ≡ b
          → ◌≡◌ {A = FollowingOutcome} (Leads next) (if b then Fails Backward else timed_outcome f c time change told)
          → Stepped head f.passages next (ms ++ (if is_in_window c.window time then mentions c.ids change else []))
          (used ++ (if is_in_window c.window time then used_line c.ids ms time change told ∷ [] else []))
      by true is e = faulty next Backward e
      by false is e = timed_steps (is_in_window c.window time) time change told is (about told refl) e

  pub said_steps : (said : SaidData) (processor : Option ℕ) → f.progress ≡ Tracing c
      → ◌≡◌ {A = FollowingOutcome} (Leads next) (said_outcome f c said processor)
      → Stepped head f.passages next (ms ++ mentions_said head.ids head.window said)
      (used ++ used_said head.ids (number_read head.ids) head.window ms said processor)
  said_steps Nothing processor expected e = unkept c f (same_following next f e) expected refl kept
  said_steps LostEvents processor expected e = faulty next Lost e
  said_steps Malformed processor expected e = faulty next BadForm e
  said_steps (Happened time change) processor expected e =
      let valid = kept.valid in
      let said : SaidData = Happened time change in
      let P : List ℕ → Option WindowData → Type 0 =
      λ ids window.
      Stepped head f.passages next (ms ++ mentions_said ids window said)
      (used ++ used_said ids (number_read ids) window ms said processor) in
      let about : (some : TaskChange) → task_change c.ids (number_read c.ids) change processor ≡ Some some
      → IsAboutTasks (length c.set.tasks) some =
      λ some is. subst (λ (n : ℕ). IsAboutTasks n some) valid.ids (told_about c.ids (number_read c.ids) change processor some is) in
      subst (λ (window : Option WindowData). P head.ids window) kept.window
      (subst (λ (ids : List ℕ). P ids c.window) kept.ids
      (told_steps (task_change c.ids (number_read c.ids) change processor) time change about e))
