-- What is known stays well formed: mentions are of tasks, and what is written is events of the set.
use Rattle.std.proofs.Common.{◌≡◌, ℕ, zero, suc, ◌+◌, ◌-◌, ◌/◌, ◌%◌, ◌<◌, ◌≤◌, Bool, true, false, nat_eq, nat_lt, List, [], ◌∷◌, ◌++◌}
use Rattle.std.proofs.Common.{length, set, Option, None, Some, refl, sym, ap, ◌∙◌, subst, inl, inr, arith, length-append, length-set}
use Rattle.std.proofs.Common.{ne_eqb, lit<, lit≤, append-nil, IsTrue, ◌↔◌}
use Rattle.std.specs.Prelude.{All, replicate, position, option_to_list, min, if◌then◌else◌}
use Rattle.std.specs.Option.{option_map}
use Rattle.std.proofs.lemmas.Bool.{cases_eq, cases_lt, ltb-true, lt-ltb, true≢false}
use Rattle.std.proofs.lemmas.List.Elements.{All-nil, All-cons, All-append, All-push}
use Rattle.std.proofs.lemmas.Nat.{div-add-mod', le-div}
use Rattle.std.proofs.Math.Nat.{mod-lt}
use Rattle.task_set.specs.TaskSet.{SetData}
use Rattle.task_set.specs.declared.event.Event.TheVariants.{Arrive, Depart, Tick}
use Rattle.task_set.specs.Event.{IsOfVersion}
use Rattle.trace_reader.specs.Input.{IsPostedOf, AreOfVersion}
use Rattle.trace_reader.specs.declared.posted.Posted.{Posted}
use Rattle.kernel_trace.specs.Course.{CourseData, mention_of, mentions, on_first_stream, last_tick, ticks, passed, written, event_of}
use Rattle.kernel_trace.specs.Course.{after_mention, after_mentions, agrees, says_ready, standing_of, standing_after}
use Rattle.kernel_trace.specs.declared.change.Change.{Change}
use Rattle.kernel_trace.specs.declared.change.Change.TheVariants.{Wakeup, Switch}
use Rattle.trace_passages.specs.declared.passage.Readiness.{Readiness}
use Rattle.kernel_trace.specs.Reading.{AreTasks, IsCourse}
use Rattle.kernel_trace.proofs.Positions.{position_some}

-- ---- ticks
tick_posted : (s : SetData) (units : ℕ) → 1 ≤ units → units ≤ 1000000 → IsPostedOf s (on_first_stream (Tick units))
tick_posted s units least most = record { stream = lit< tt; event = (tt, (least, most)) }

pub last_some : (units : ℕ) → (units ≡ 0 → ⊥) → last_tick units ≡ on_first_stream (Tick units) ∷ []
last_some units some = ap (λ (b : Bool). if b then [] else on_first_stream (Tick units) ∷ []) (ne_eqb units 0 some)

last_posted : (s : SetData) (units : ℕ) → units < 1000000 → All (IsPostedOf s) (last_tick units)
last_posted s units below = elim (cases_eq units 0) [
  | inl none ↦ subst (λ (n : ℕ). All (IsPostedOf s) (last_tick n)) (sym none) (All-nil (IsPostedOf s))
  | inr some ↦
      subst (All (IsPostedOf s)) (sym (last_some units some))
      (All-cons (IsPostedOf s) (on_first_stream (Tick units)) [] (tick_posted s units (omega (arith, some)) (omega arith))
      (All-nil (IsPostedOf s)))
]

full_posted : (set : SetData) (count : ℕ) → All (IsPostedOf set) (replicate count (on_first_stream (Tick 1000000)))
full_posted set zero = All-nil (IsPostedOf set)
full_posted set (suc count) =
    All-cons (IsPostedOf set) (on_first_stream (Tick 1000000)) (replicate count (on_first_stream (Tick 1000000)))
    (tick_posted set 1000000 (lit≤ tt) (lit≤ tt)) (full_posted set count)

pub million : 0 < 1000000
million = lit< tt

pub ticks_posted : (set : SetData) (units : ℕ) → All (IsPostedOf set) (ticks units)
unfolding ticks
ticks_posted set units =
    All-append (IsPostedOf set) (replicate (units / 1000000) (on_first_stream (Tick 1000000))) (last_tick (units % 1000000))
    (full_posted set (units / 1000000)) (last_posted set (units % 1000000) (mod-lt units million))

-- the first version has them
abbrev IsOfFirst : Posted → Type 0
IsOfFirst posted = IsOfVersion 1 posted.event

last_first : (units : ℕ) → All IsOfFirst (last_tick units)
last_first units = elim (cases_eq units 0) [
  | inl none ↦ subst (λ (n : ℕ). All IsOfFirst (last_tick n)) (sym none) (All-nil IsOfFirst)
  | inr some ↦
      subst (All IsOfFirst) (sym (last_some units some))
      (All-cons IsOfFirst (on_first_stream (Tick units)) [] tt (All-nil IsOfFirst))
]

full_first : (count : ℕ) → All IsOfFirst (replicate count (on_first_stream (Tick 1000000)))
full_first zero = All-nil IsOfFirst
full_first (suc count) =
    All-cons IsOfFirst (on_first_stream (Tick 1000000)) (replicate count (on_first_stream (Tick 1000000))) tt (full_first count)

pub ticks_first : (units : ℕ) → All IsOfFirst (ticks units)
unfolding ticks
ticks_first units =
    All-append IsOfFirst (replicate (units / 1000000) (on_first_stream (Tick 1000000))) (last_tick (units % 1000000))
    (full_first (units / 1000000)) (last_first (units % 1000000))

-- ---- how many ticks
length_full : (count : ℕ) (posted : Posted) → length (replicate count posted) ≡ count
length_full zero posted = refl
length_full (suc count) posted = omega (arith, length_full count posted)

-- one tick more, where some units are left
pub part : ℕ → ℕ
part zero = 0
part (suc left) = 1

pub part_zero : part 0 ≡ 0
unfolding part
part_zero = refl

pub part_some : (n : ℕ) → (n ≡ 0 → ⊥) → part n ≡ 1
unfolding part
part_some zero some = absurd (some refl)
part_some (suc n) some = refl

length_last : (units : ℕ) → length (last_tick units) ≡ part units
length_last units = elim (cases_eq units 0) [
  | inl none ↦ subst (λ (n : ℕ). length (last_tick n) ≡ part n) (sym none) (sym part_zero)
  | inr some ↦ ap length (last_some units some) ∙ sym (part_some units some)
]

part_small : (n : ℕ) → part n ≤ 1
unfolding part
part_small zero = omega arith
part_small (suc n) = omega arith

pub length_ticks : (units : ℕ) → length (ticks units) ≡ units / 1000000 + part (units % 1000000)
unfolding ticks
length_ticks units =
    omega (
      arith,
      length-append (replicate (units / 1000000) (on_first_stream (Tick 1000000))) (last_tick (units % 1000000)),
      length_full (units / 1000000) (on_first_stream (Tick 1000000)),
      length_last (units % 1000000),
    )

-- ticks that are few have few units
pub few_ticks : (units : ℕ) → length (ticks units) ≤ 20000 → units < 20001000000
few_ticks units few =
    let count = length_ticks units in
    let parts = div-add-mod' units 1000000 in
    let left = mod-lt units million in
    omega (arith, few, count, parts, left)

-- ---- one more mention
event_posted : (set : SetData) (m : Readiness) → m.task < length set.tasks → IsPostedOf set (on_first_stream (event_of m))
event_posted set m below = by m.is_in
  where
    by : (b : Bool) → IsPostedOf set (on_first_stream (if b then Arrive m.task else Depart m.task))
    by true = record { stream = lit< tt; event = (below, tt) }
    by false = record { stream = lit< tt; event = (below, tt) }

event_first : (m : Readiness) → IsOfFirst (on_first_stream (event_of m))
event_first m = by m.is_in
  where
    by : (b : Bool) → IsOfFirst (on_first_stream (if b then Arrive m.task else Depart m.task))
    by true = tt
    by false = tt

pub written_posted : (c : CourseData) → IsCourse c → All (IsPostedOf c.set) (written c)
written_posted c is = All-append (IsPostedOf c.set) c.events (ticks (passed c)) is.events (ticks_posted c.set (passed c))

pub written_first : (c : CourseData) → IsCourse c → AreOfVersion 1 (written c)
written_first c is = All-append IsOfFirst c.events (ticks (passed c)) is.of_version (ticks_first (passed c))

-- what a mention leads to, by whether it agrees with what is known
abbrev pub step_by : Bool → CourseData → Readiness → CourseData
step_by b c m =
    if b
    then record c { standings = set c.standings m.task (standing_after m.is_in) }
    else record c {
      standings = set c.standings m.task (standing_after m.is_in);
      clock = c.used;
      events = written c ++ on_first_stream (event_of m) ∷ [];
    }

step_keeps : (b : Bool) (c : CourseData) (m : Readiness) → IsCourse c → m.task < length c.set.tasks
    → IsCourse (step_by b c m) × ((step_by b c m).set ≡ c.set) × ((step_by b c m).used ≡ c.used)
step_keeps true c m is below = (
  record {
    valid = is.valid;
    ids = is.ids;
    standings = length-set c.standings m.task (standing_after m.is_in) ∙ is.standings;
    events = is.events;
    of_version = is.of_version;
  },
  refl,
  refl,
)
step_keeps false c m is below = (
  record {
    valid = is.valid;
    ids = is.ids;
    standings = length-set c.standings m.task (standing_after m.is_in) ∙ is.standings;
    events = All-push (IsPostedOf c.set) (written c) (on_first_stream (event_of m)) (written_posted c is) (event_posted c.set m below);
    of_version = All-push IsOfFirst (written c) (on_first_stream (event_of m)) (written_first c is) (event_first m);
  },
  refl,
  refl,
)

agreement : CourseData → Readiness → Bool
agreement c m = agrees (says_ready (standing_of c.standings m.task)) m.is_in

pub mention_keeps : (c : CourseData) (m : Readiness) → IsCourse c → m.task < length c.set.tasks
    → IsCourse (after_mention c m) × ((after_mention c m).set ≡ c.set) × ((after_mention c m).used ≡ c.used)
mention_keeps c m is below = step_keeps (agrees (says_ready (standing_of c.standings m.task)) m.is_in) c m is below

-- ---- what is written only grows
no_time : (c : CourseData) → passed (record c { clock = c.used }) ≡ 0
no_time c = by c.used
  where
    by : (used : Option ℕ) → passed (record c { clock = used; used = used }) ≡ 0
    by None = refl
    by (Some time) = omega arith

step_grows : (b : Bool) (c : CourseData) (m : Readiness) → length (written c) ≤ length (written (step_by b c m))
step_grows true c m = omega arith
step_grows false c m =
    let event : Posted = on_first_stream (event_of m) in
    omega (arith, length-append (written c) (event ∷ []), length-append (written c ++ event ∷ []) (ticks (passed (step_by false c m))))

pub mention_grows : (c : CourseData) (m : Readiness) → length (written c) ≤ length (written (after_mention c m))
mention_grows c m = step_grows (agrees (says_ready (standing_of c.standings m.task)) m.is_in) c m

pub mentions_grow : (c : CourseData) (ms : List Readiness) → length (written c) ≤ length (written (after_mentions c ms))
mentions_grow c [] = omega arith
mentions_grow c (m ∷ ms) = let first = mention_grows c m in let rest = mentions_grow (after_mention c m) ms in omega (arith, first, rest)

-- no more time than before has passed since the last event
step_passed : (b : Bool) (c : CourseData) (m : Readiness) → passed (step_by b c m) ≤ passed c
step_passed true c m = omega arith
step_passed false c m = omega (arith, no_time c)

pub mention_passed : (c : CourseData) (m : Readiness) → passed (after_mention c m) ≤ passed c
mention_passed c m = step_passed (agrees (says_ready (standing_of c.standings m.task)) m.is_in) c m

-- ---- the mentions of a line
abbrev mention_as : Bool → ℕ → Readiness
mention_as is_in task = record { task = task; is_in = is_in }

tasks_of : (count : ℕ) (is_in : Bool) (found : Option ℕ) → ((k : ℕ) → found ≡ Some k → k < count)
    → AreTasks count (option_to_list (option_map (λ (task : ℕ). mention_as is_in task) found))
tasks_of count is_in None within = All-nil (λ (m : Readiness). m.task < count)
tasks_of count is_in (Some k) within =
    All-cons (λ (m : Readiness). m.task < count) (mention_as is_in k) [] (within k refl) (All-nil (λ (m : Readiness). m.task < count))

pub mention_task : (ids : List ℕ) (id : ℕ) (is_in : Bool) → AreTasks (length ids) (option_to_list (mention_of ids id is_in))
mention_task ids id is_in =
    tasks_of (length ids) is_in (position (nat_eq id) ids) (λ k e. (position_some (nat_eq id) ids k (sym e)).1)

pub mentions_tasks : (ids : List ℕ) (change : Change) → AreTasks (length ids) (mentions ids change)
mentions_tasks ids (Wakeup id) = mention_task ids id true
mentions_tasks ids (Switch from stays to) =
    All-append (λ (m : Readiness). m.task < length ids) (option_to_list (mention_of ids from.id stays))
    (option_to_list (mention_of ids to.id true))
    (mention_task ids from.id stays) (mention_task ids to.id true)

-- ---- ticks as they are written
pub ticks_some : (units : ℕ) → 0 < units % 1000000
    → ticks units ≡ replicate (units / 1000000) (on_first_stream (Tick 1000000)) ++ on_first_stream (Tick (units % 1000000)) ∷ []
unfolding ticks
ticks_some units some =
    ap (λ (rest : List Posted). replicate (units / 1000000) (on_first_stream (Tick 1000000)) ++ rest)
    (last_some (units % 1000000) (λ none. omega (arith, some, none)))

pub ticks_none : (units : ℕ) → units % 1000000 ≤ 0 → ticks units ≡ replicate (units / 1000000) (on_first_stream (Tick 1000000))
unfolding ticks
ticks_none units none =
    let nothing : units % 1000000 ≡ 0 = omega (arith, none) in
    ap (λ (left : ℕ). replicate (units / 1000000) (on_first_stream (Tick 1000000)) ++ last_tick left) nothing
    ∙ append-nil (replicate (units / 1000000) (on_first_stream (Tick 1000000)))

-- ---- too many events
module _ (events : List Posted) (count all p more : ℕ) (same : count ≡ length events) (few : count ≤ 20000)
    (capped : p ≡ min all 20001000000) (rest : more ≡ part (p % 1000000)) where
  full_small : all < 20001000000
      → IsTrue (nat_lt (20000 - count) (p / 1000000 + more)) ↔ (20000 < length (events ++ ticks all))
  full_small small =
      let exact : p ≡ all = omega (arith, capped, small) in
      let whole : p / 1000000 ≡ all / 1000000 = ap (λ (n : ℕ). n / 1000000) exact in
      let left : more ≡ part (all % 1000000) = rest ∙ ap (λ (n : ℕ). part (n % 1000000)) exact in
      let long = length-append events (ticks all) in
      let units = length_ticks all in (
        (λ yes. let lt = ltb-true (20000 - count) (p / 1000000 + more) yes in omega (arith, lt, whole, left, long, units, same, few)),
        λ many. lt-ltb (20000 - count) (p / 1000000 + more) (omega (arith, many, whole, left, long, units, same, few)),
      )

  full_large : 20001000000 ≤ all
      → IsTrue (nat_lt (20000 - count) (p / 1000000 + more)) ↔ (20000 < length (events ++ ticks all))
  full_large large =
      let exact : p ≡ 20001000000 = omega (arith, capped, large) in
      let whole : p / 1000000 ≡ 20001 = ap (λ (n : ℕ). n / 1000000) exact in
      let long = length-append events (ticks all) in
      let units = length_ticks all in
      let most : 20001 ≤ all / 1000000 = le-div 20001 all 1000000 million (omega (arith, large)) in (
        (λ yes. omega (arith, long, units, most)),
        λ many. lt-ltb (20000 - count) (p / 1000000 + more) (omega (arith, whole)),
      )

  pub full_is : IsTrue (nat_lt (20000 - count) (p / 1000000 + more)) ↔ (20000 < length (events ++ ticks all))
  full_is = elim (cases_lt all 20001000000) [
    | inl small ↦ full_small small
    | inr large ↦ full_large large
  ]

pub not_full : (c : CourseData) (r : Bool) → IsTrue r ↔ (20000 < length (written c)) → r ≡ false → passed c < 20001000000
not_full c r tells fails = elim (cases_lt 20000 (length (written c))) [
  | inl long ↦ absurd (true≢false (sym (tells.1 long) ∙ fails))
  | inr few ↦ few_ticks (passed c) (omega (arith, few, length-append c.events (ticks (passed c))))
]

-- what is written at the end
pub written_is : (c : CourseData) (p : ℕ) (items : List Posted) → length (written c) ≤ 20000 → p ≡ min (passed c) 20001000000
    → items ≡ c.events ++ ticks p → items ≡ written c
written_is c p items few capped pushed =
    let short = few_ticks (passed c) (omega (arith, few, length-append c.events (ticks (passed c)))) in
    let exact : p ≡ passed c = omega (arith, capped, short) in
    pushed ∙ ap (λ (n : ℕ). c.events ++ ticks n) exact
