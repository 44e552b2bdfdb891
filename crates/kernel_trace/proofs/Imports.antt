-- What is known after some lines of a trace, in the words of the trace.
use Rattle.std.proofs.Common.{◌≡◌, ℕ, zero, suc, ◌+◌, ◌*◌, ◌/◌, ◌%◌, ◌<◌, ◌==◌, Bool, true, false, List, [], ◌∷◌, ◌++◌, length, set, fold}
use Rattle.std.proofs.Common.{Option, Some, refl, sym, ap, ◌∙◌, subst, inl, inr, arith, append_assoc, append-nil, length-set, eq-eqb}
use Rattle.std.proofs.Common.{ne_eqb, add-zero}
use Rattle.std.specs.Prelude.{replicate, if◌then◌else◌}
use Rattle.std.proofs.lemmas.Bool.{cases_eq}
use Rattle.std.proofs.lemmas.List.Elements.{All-head, All-tail}
use Rattle.std.proofs.lemmas.List.{get_or-set_same, get_or-set_other}
use Rattle.std.proofs.lemmas.Nat.{div-add-mod'}
use Rattle.task_set.specs.declared.event.Event.TheVariants.{Arrive, Depart, Tick}
use Rattle.trace_reader.specs.declared.posted.Posted.{Posted}
use Rattle.kernel_trace.specs.Course.{CourseData, WindowData, mentions, is_in_window, on_first_stream, last_tick, ticks, passed, written}
use Rattle.kernel_trace.specs.Course.{event_of, after_mention, after_mentions, agrees, says_ready, standing_of, standing_after}
use Rattle.kernel_trace.specs.Import.{mention_says, is_last_in, event_says, is_ready_after, Changes, AllChange, all_units, ReadyAsMentioned}
use Rattle.kernel_trace.specs.Import.{after_said, course_after, mentions_said, mentions_in, IsHead}
use Rattle.text_fields.specs.Lines.{fields_of}
use Rattle.kernel_trace.specs.TraceLine.{Said, Nothing, LostEvents, Malformed, Happened, said_by}
use Rattle.kernel_trace.specs.declared.change.Change.{Change}
use Rattle.kernel_trace.proofs.Courses.{mentions_tasks, last_some}
use Rattle.kernel_trace.specs.Reading.{AreTasks}
use Rattle.trace_passages.specs.declared.passage.Readiness.{Readiness}
use Rattle.kernel_trace.specs.declared.change.Standing.{Standing}
use Rattle.kernel_trace.specs.declared.change.Standing.TheVariants.{Unmentioned}

-- ---- folds over two lists
pub fold_append : {A B : Type 0} (f : B → A → B) (b : B) (xs ys : List A) → fold f b (xs ++ ys) ≡ fold f (fold f b xs) ys
fold_append f b [] ys = refl
fold_append f b (x ∷ xs) ys = fold_append f (f b x) xs ys

-- ---- ticks change nobody
abbrev posted_says : ℕ → Bool → Posted → Bool
posted_says t before posted = event_says t before posted.event

full_says : (t count : ℕ) (before : Bool) → fold (posted_says t) before (replicate count (on_first_stream (Tick 1000000))) ≡ before
full_says t zero before = refl
full_says t (suc count) before = full_says t count before

last_says : (t units : ℕ) (before : Bool) → fold (posted_says t) before (last_tick units) ≡ before
last_says t units before = elim (cases_eq units 0) [
  | inl none ↦ ap (λ (n : ℕ). fold (posted_says t) before (last_tick n)) none
  | inr some ↦ ap (fold (posted_says t) before) (last_some units some)
]

ticks_say : (t units : ℕ) (before : Bool) → fold (posted_says t) before (ticks units) ≡ before
unfolding ticks
ticks_say t units before =
    fold_append (posted_says t) before (replicate (units / 1000000) (on_first_stream (Tick 1000000))) (last_tick (units % 1000000))
    ∙ last_says t (units % 1000000) (fold (posted_says t) before (replicate (units / 1000000) (on_first_stream (Tick 1000000))))
    ∙ full_says t (units / 1000000) before

written_says : (t : ℕ) (c : CourseData) → is_ready_after t (written c) ≡ is_ready_after t c.events
written_says t c = fold_append (posted_says t) false c.events (ticks (passed c)) ∙ ticks_say t (passed c) (is_ready_after t c.events)

-- ---- units
pub units_append : (xs ys : List Posted) → all_units (xs ++ ys) ≡ all_units xs + all_units ys
units_append [] ys = omega arith
units_append (x ∷ xs) ys = omega (arith, units_append xs ys)

full_units : (count : ℕ) → all_units (replicate count (on_first_stream (Tick 1000000))) ≡ count * 1000000
full_units zero = refl
full_units (suc count) = omega (arith, full_units count)

last_units : (units : ℕ) → all_units (last_tick units) ≡ units
last_units units = elim (cases_eq units 0) [
  | inl none ↦ ap (λ (n : ℕ). all_units (last_tick n)) none ∙ sym none
  | inr some ↦ ap all_units (last_some units some) ∙ add-zero units
]

ticks_units : (units : ℕ) → all_units (ticks units) ≡ units
unfolding ticks
ticks_units units =
    omega (
      arith,
      units_append (replicate (units / 1000000) (on_first_stream (Tick 1000000))) (last_tick (units % 1000000)),
      full_units (units / 1000000),
      last_units (units % 1000000),
      div-add-mod' units 1000000,
    )

pub written_units : (c : CourseData) → all_units (written c) ≡ all_units c.events + passed c
written_units c = units_append c.events (ticks (passed c)) ∙ ap (λ (n : ℕ). all_units c.events + n) (ticks_units (passed c))

-- ---- events that change something
change_append : (before xs ys : List Posted) → AllChange before xs → AllChange (before ++ xs) ys → AllChange before (xs ++ ys)
change_append before [] ys one two = subst (λ (b : List Posted). AllChange b ys) (append-nil before) two
change_append before (x ∷ xs) ys one two = (
  one.0,
  change_append (before ++ x ∷ []) xs ys one.1
      (subst (λ (b : List Posted). AllChange b ys) (sym (append_assoc before (x ∷ []) xs)) two),
)

change_full : (before : List Posted) (count : ℕ) → AllChange before (replicate count (on_first_stream (Tick 1000000)))
change_full before zero = tt
change_full before (suc count) = (tt, change_full (before ++ on_first_stream (Tick 1000000) ∷ []) count)

change_last : (before : List Posted) (units : ℕ) → AllChange before (last_tick units)
change_last before units = elim (cases_eq units 0) [
  | inl none ↦ subst (λ (n : ℕ). AllChange before (last_tick n)) (sym none) tt
  | inr some ↦ subst (AllChange before) (sym (last_some units some)) (tt, tt)
]

change_ticks : (before : List Posted) (units : ℕ) → AllChange before (ticks units)
unfolding ticks
change_ticks before units =
    change_append before (replicate (units / 1000000) (on_first_stream (Tick 1000000))) (last_tick (units % 1000000))
    (change_full before (units / 1000000))
    (change_last (before ++ replicate (units / 1000000) (on_first_stream (Tick 1000000))) (units % 1000000))

pub change_written : (c : CourseData) → AllChange [] c.events → AllChange [] (written c)
change_written c all = change_append [] c.events (ticks (passed c)) all (change_ticks c.events (passed c))

-- ---- what a mention says
abbrev pub mentioned : ℕ → Bool → Bool → ℕ → Bool
mentioned task is_in before t = if task == t then is_in else before

event_mentions : (t : ℕ) (before : Bool) (m : Readiness) → event_says t before (event_of m) ≡ mentioned m.task m.is_in before t
event_mentions t before m = by m.is_in
  where
    by : (b : Bool) → event_says t before (if b then Arrive m.task else Depart m.task) ≡ mentioned m.task b before t
    by true = refl
    by false = refl

standing_is : (is_in : Bool) → says_ready (standing_after is_in) ≡ is_in
standing_is true = refl
standing_is false = refl

-- the standing of a task after a mention
pub standing_mentions : (standings : List Standing) (m : Readiness) (t : ℕ) → m.task < length standings
    → says_ready (standing_of (set standings m.task (standing_after m.is_in)) t)
    ≡ mentioned m.task m.is_in (says_ready (standing_of standings t)) t
standing_mentions standings m t within = elim (cases_eq m.task t) [
  | inl same ↦ (
      let chosen : mentioned m.task m.is_in (says_ready (standing_of standings t)) t ≡ m.is_in =
      ap (λ (b : Bool). if b then m.is_in else says_ready (standing_of standings t)) (eq-eqb m.task t same) in
      let here : standing_of (set standings m.task (standing_after m.is_in)) m.task
      ≡ standing_after m.is_in = get_or-set_same standings m.task (standing_after m.is_in) Unmentioned within in
      let there : standing_of (set standings m.task (standing_after m.is_in)) t ≡ standing_after m.is_in =
      subst (λ (n : ℕ). standing_of (set standings m.task (standing_after m.is_in)) n ≡ standing_after m.is_in) same here in
      ap says_ready there ∙ standing_is m.is_in ∙ sym chosen)
  | inr differs ↦ (
      let chosen : mentioned m.task m.is_in (says_ready (standing_of standings t)) t ≡ says_ready (standing_of standings t) =
      ap (λ (b : Bool). if b then m.is_in else says_ready (standing_of standings t)) (ne_eqb m.task t differs) in
      ap says_ready (get_or-set_other standings m.task t (standing_after m.is_in) Unmentioned (λ e. differs (sym e))) ∙ sym chosen)
]

pub agreed : (a b : Bool) → agrees a b ≡ true → a ≡ b
agreed true true e = refl
agreed true false e = cc
agreed false true e = cc
agreed false false e = refl

-- what events and mentions say beside what is known
pub record Tells (c : CourseData) (ms : List Readiness) : Type 0 where
  pub ready : (t : ℕ) → is_ready_after t c.events ≡ says_ready (standing_of c.standings t)
  pub said : (t : ℕ) → is_last_in t ms ≡ says_ready (standing_of c.standings t)
  pub changing : AllChange [] c.events

-- a mention of a task that it finds so changes nothing
pub same_mention : (before is_in : Bool) (task t : ℕ) → (task ≡ t → before ≡ is_in) → before ≡ mentioned task is_in before t
same_mention before is_in task t same = elim (cases_eq task t) [
  | inl here ↦ same here ∙ sym (ap (λ (b : Bool). if b then is_in else before) (eq-eqb task t here))
  | inr there ↦ sym (ap (λ (b : Bool). if b then is_in else before) (ne_eqb task t there))
]

disagreed : (a b : Bool) (before : List Posted) (task : ℕ) → is_ready_after task before ≡ a → agrees a b ≡ false
    → Changes before (if b then Arrive task else Depart task)
disagreed true true before task e fails = cc
disagreed true false before task e fails = e
disagreed false true before task e fails = e
disagreed false false before task e fails = cc

module _ (c : CourseData) (ms : List Readiness) (m : Readiness) (tells : Tells c ms) (within : m.task < length c.standings) where
  said_more : (t : ℕ) → is_last_in t (ms ++ m ∷ []) ≡ says_ready (standing_of (set c.standings m.task (standing_after m.is_in)) t)
  said_more t =
      fold_append (mention_says t) false ms (m ∷ [])
      ∙ ap (λ (before : Bool). mentioned m.task m.is_in before t) (tells.said t)
      ∙ sym (standing_mentions c.standings m t within)

  pub step_tells : (b : Bool) → agrees (says_ready (standing_of c.standings m.task)) m.is_in ≡ b
      → Tells (if b
      then record c { standings = set c.standings m.task (standing_after m.is_in) }
      else record c {
        standings = set c.standings m.task (standing_after m.is_in);
        clock = c.used;
        events = written c ++ on_first_stream (event_of m) ∷ [];
      }) (ms ++ m ∷ [])
  step_tells true same = record {
    ready = λ t.
        (tells.ready t
        ∙ same_mention (says_ready (standing_of c.standings t)) m.is_in m.task t
        (λ here. subst (λ (n : ℕ). says_ready (standing_of c.standings n) ≡ m.is_in) here
        (agreed (says_ready (standing_of c.standings m.task)) m.is_in same))
        ∙ sym (standing_mentions c.standings m t within));
    said = said_more;
    changing = tells.changing;
  }
  step_tells false other = record {
    ready = λ t.
        (fold_append (posted_says t) false (written c) (on_first_stream (event_of m) ∷ [])
        ∙ ap (λ (before : Bool). event_says t before (event_of m)) (written_says t c ∙ tells.ready t)
        ∙ event_mentions t (says_ready (standing_of c.standings t)) m
        ∙ sym (standing_mentions c.standings m t within));
    said = said_more;
    changing =
        change_append [] (written c) (on_first_stream (event_of m) ∷ []) (change_written c tells.changing) (
          disagreed (says_ready (standing_of c.standings m.task)) m.is_in (written c) m.task (written_says m.task c ∙ tells.ready m.task)
              other,
          tt,
        );
  }

  mention_tells : Tells (after_mention c m) (ms ++ m ∷ [])
  mention_tells = step_tells (agrees (says_ready (standing_of c.standings m.task)) m.is_in) refl

-- ---- the mentions of a line, one after another
pub step_length : (b : Bool) (c : CourseData) (m : Readiness) → length (if b
    then record c { standings = set c.standings m.task (standing_after m.is_in) }
    else record c {
      standings = set c.standings m.task (standing_after m.is_in);
      clock = c.used;
      events = written c ++ on_first_stream (event_of m) ∷ [];
    }).standings ≡ length c.standings
step_length true c m = length-set c.standings m.task (standing_after m.is_in)
step_length false c m = length-set c.standings m.task (standing_after m.is_in)

mentions_tell : (c : CourseData) (ms more : List Readiness) → Tells c ms → AreTasks (length c.standings) more
    → Tells (after_mentions c more) (ms ++ more)
mentions_tell c ms [] tells tasks = subst (Tells c) (sym (append-nil ms)) tells
mentions_tell c ms (m ∷ more) tells tasks =
    let first = mention_tells c ms m tells (All-head (λ (m : Readiness). m.task < length c.standings) m more tasks) in
    let same = step_length (agrees (says_ready (standing_of c.standings m.task)) m.is_in) c m in
    let rest = mentions_tell (after_mention c m) (ms ++ m ∷ []) more first
    (subst (λ (n : ℕ). AreTasks n more) (sym same) (All-tail (λ (m : Readiness). m.task < length c.standings) m more tasks)) in
    subst (Tells (after_mentions c (m ∷ more))) (append_assoc ms (m ∷ []) more) rest

-- what stays over a line
pub record Stays (c d : CourseData) : Type 0 where
  pub set : d.set ≡ c.set
  pub ids : d.ids ≡ c.ids
  pub window : d.window ≡ c.window
  pub standings : length d.standings ≡ length c.standings

step_stays : (b : Bool) (c : CourseData) (m : Readiness) → Stays c (if b
    then record c { standings = set c.standings m.task (standing_after m.is_in) }
    else record c {
      standings = set c.standings m.task (standing_after m.is_in);
      clock = c.used;
      events = written c ++ on_first_stream (event_of m) ∷ [];
    })
step_stays true c m = record { set = refl; ids = refl; window = refl; standings = length-set c.standings m.task (standing_after m.is_in) }
step_stays false c m = record { set = refl; ids = refl; window = refl; standings = length-set c.standings m.task (standing_after m.is_in) }

mentions_stay : (c d : CourseData) (ms : List Readiness) → Stays c d → Stays c (after_mentions d ms)
mentions_stay c d [] stays = stays
mentions_stay c d (m ∷ ms) stays =
    let next = step_stays (agrees (says_ready (standing_of d.standings m.task)) m.is_in) d m in
    mentions_stay c (after_mention d m) ms
    (record {
      set = next.set ∙ stays.set;
      ids = next.ids ∙ stays.ids;
      window = next.window ∙ stays.window;
      standings = next.standings
          ∙ stays.standings;
    })

-- ---- lines, one after another
-- what holds over a line: the mentions are told, and the tasks stay the same
pub record Follows (head c : CourseData) (ms : List Readiness) : Type 0 where
  pub tells : Tells c ms
  pub stays : Stays head c

module _ (waking : Bool) (head : CourseData) (one_each : length head.standings ≡ length head.ids) where
  -- the tasks of mentions are among those that are known
  pub known_tasks : (c : CourseData) (change : Change) → Stays head c → AreTasks (length c.standings) (mentions c.ids change)
  known_tasks c change stays =
      let same : length c.ids ≡ length c.standings = ap length stays.ids ∙ sym one_each ∙ sym stays.standings in
      subst (λ (n : ℕ). AreTasks n (mentions c.ids change)) same (mentions_tasks c.ids change)

  -- a line, by whether it is in the window
  timed_follows : (b : Bool) (c : CourseData) (ms : List Readiness) (time : ℕ) (change : Change) → Follows head c ms
      → Follows head (if b then after_mentions (record c { last = Some time; used = Some time }) (mentions c.ids change)
      else record c { last = Some time })
      (ms ++ (if b then mentions c.ids change else []))
  timed_follows true c ms time change follows =
      let now : CourseData = record c { last = Some time; used = Some time } in
      let tells = follows.tells in
      let stays = follows.stays in
      let tells_now : Tells now ms = record { ready = tells.ready; said = tells.said; changing = tells.changing } in
      let stays_now : Stays head now = record { set = stays.set; ids = stays.ids; window = stays.window; standings = stays.standings } in
      record {
        tells = mentions_tell now ms (mentions c.ids change) tells_now (known_tasks c change stays);
        stays = mentions_stay head now (mentions c.ids change) stays_now;
      }
  timed_follows false c ms time change follows =
      let tells = follows.tells in
      let stays = follows.stays in
      let later : CourseData = record c { last = Some time } in
      let tells_now : Tells later ms = record { ready = tells.ready; said = tells.said; changing = tells.changing } in
      record {
        tells = subst (Tells later) (sym (append-nil ms)) tells_now;
        stays = record { set = stays.set; ids = stays.ids; window = stays.window; standings = stays.standings };
      }

  unchanged : (c : CourseData) (ms : List Readiness) → Follows head c ms → Follows head c (ms ++ [])
  unchanged c ms follows = subst (Follows head c) (sym (append-nil ms)) follows

  pub said_follows : (c : CourseData) (ms : List Readiness) (said : Said) → Follows head c ms
      → Follows head (after_said c said) (ms ++ mentions_said head.ids head.window said)
  said_follows c ms Nothing follows = unchanged c ms follows
  said_follows c ms LostEvents follows = unchanged c ms follows
  said_follows c ms Malformed follows = unchanged c ms follows
  said_follows c ms (Happened time change) follows =
      let stays = follows.stays in
      let P : List ℕ → Option WindowData → Type 0 = λ ids window. Follows head (after_said c (Happened time change))
      (ms ++ mentions_said ids window (Happened time change)) in
      subst (λ (window : Option WindowData). P head.ids window) stays.window
      (subst (λ (ids : List ℕ). P ids c.window) stays.ids (timed_follows (is_in_window c.window time) c ms time change follows))

  pub lines_follow : (c : CourseData) (ms : List Readiness) (lines : List (List ℕ)) → Follows head c ms
      → Follows head (course_after waking c lines) (ms ++ mentions_in waking head.ids head.window lines)
  lines_follow c ms [] follows = unchanged c ms follows
  lines_follow c ms (line ∷ rest) follows =
      let said : Said = said_by waking (fields_of line) in
      let first = said_follows c ms said follows in
      subst (Follows head (course_after waking c (line ∷ rest)))
      (append_assoc ms (mentions_said head.ids head.window said) (mentions_in waking head.ids head.window rest))
      (lines_follow (after_said c said) (ms ++ mentions_said head.ids head.window said) rest first)

  -- from a head on
  pub head_follows : IsHead head → Follows head head []
  head_follows is = record {
    tells = record {
      ready = λ t. (ap (is_ready_after t) is.no_events ∙ sym (ap says_ready (is.unmentioned t)));
      said = λ t. sym (ap says_ready (is.unmentioned t));
      changing = subst (AllChange []) (sym is.no_events) tt;
    };
    stays = record { set = refl; ids = refl; window = refl; standings = refl };
  }

  trace_follows : IsHead head → (lines : List (List ℕ))
      → Tells (course_after waking head lines) (mentions_in waking head.ids head.window lines)
  trace_follows is lines = let all = lines_follow head [] lines (head_follows is) in all.tells

pub ready_as_mentioned : ReadyAsMentioned
ready_as_mentioned waking head lines is one_each =
    let tells = trace_follows waking head one_each is lines in
    ((λ t. (tells.ready t ∙ sym (tells.said t))), tells.changing)
