-- The threads that are told apart, and the numbers that threads have at the end, from those that they have while a text is read.
use Rattle.std.proofs.Common.{◌≡◌, ℕ, suc, ◌+◌, ◌-◌, ◌<◌, ◌≤◌, Bool, true, false, not, ◌&&◌, nat_lt, nat_eq, List, [], ◌∷◌, ◌++◌, length}
use Rattle.std.proofs.Common.{Option, None, Some, refl, sym, ap, ◌∙◌, arith, inl, inr, ltb-true, length-append}
use Rattle.std.specs.Prelude.{All, map, fold, nat_le, position, if◌then◌else◌}
use Rattle.std.specs.List.{position_or_len}
use Rattle.std.specs.Option.{option_map, option_and_then}
use Rattle.std.proofs.lemmas.Bool.{lt-ltb, le-ltb, le-leb, leb-true, ne_eqb, cases_lt, true≢false}
use Rattle.std.proofs.lemmas.List.{map-append}
use Rattle.std.proofs.lemmas.List.Elements.{All-nil, All-push, All-head, All-tail}
use Rattle.text_fields.specs.Lines.{fields_of}
use Rattle.text_fields.proofs.Words.{and_left, and_right}
use Rattle.kernel_trace.specs.Course.{WindowData, is_in_window}
use Rattle.kernel_trace.specs.Import.{mentions_said}
use Rattle.kernel_trace.specs.Passage.{task_change, turn_of}
use Rattle.kernel_trace.specs.Passages.{UsedLine, used_told, used_said, used_lines, turns, from_turn, first_use, unlisted_of}
use Rattle.kernel_trace.specs.Passages.{passage_since, passages_since, passages_in}
use Rattle.kernel_trace.specs.Processor.{processor_of}
use Rattle.kernel_trace.specs.TraceLine.{Said as SaidData, Nothing, LostEvents, Malformed, Happened, said_by}
use Rattle.kernel_trace.specs.Unlisted.{is_among, is_unlisted, with_id, with_named, with_said, numbered, number_of, read_as, number_read}
use Rattle.kernel_trace.specs.Unlisted.{settled, settled_turn, settled_passage}
use Rattle.kernel_trace.specs.declared.change.Change.{Change}
use Rattle.kernel_trace.specs.declared.change.Change.TheVariants.{Wakeup, Switch}
use Rattle.kernel_trace.specs.declared.change.Thread.{Thread}
use Rattle.kernel_trace.specs.declared.task_change.TaskChange.{TaskChange}
use Rattle.kernel_trace.specs.declared.task_change.TaskChange.TheVariants as task
use Rattle.trace_passages.specs.declared.passage.Passage.{Passage}
use Rattle.trace_passages.specs.declared.passage.Readiness.{Readiness}
use Rattle.trace_passages.specs.declared.turn.Turn.{Turn}
use Rattle.kernel_trace.proofs.Positions.{position_later, position_some}

-- ---- what holds of those told apart
-- a fact that each new thread keeps holds of those that some lines tell apart
module _ (P : List ℕ → Type 0) (ids : List ℕ)
    (keeps : (unlisted : List ℕ) (thread : Thread) → P unlisted → is_unlisted ids thread ≡ true → length unlisted < 1024
    → P (with_id unlisted thread.id)) where
  pub named_keeps : (unlisted : List ℕ) (thread : Thread) → P unlisted → P (with_named ids unlisted thread)
  named_keeps unlisted thread holds = by (is_unlisted ids thread) refl (nat_lt (length unlisted) 1024) refl
    where
      by : (a : Bool) → is_unlisted ids thread ≡ a → (b : Bool) → nat_lt (length unlisted) 1024 ≡ b
          → P (if a && b then with_id unlisted thread.id else unlisted)
      by true is true few = keeps unlisted thread holds is (ltb-true (length unlisted) 1024 few)
      by true is false many = holds
      by false isnt b few = holds

  said_keeps : (unlisted : List ℕ) (change : Change) → P unlisted → P (with_said ids unlisted change)
  said_keeps unlisted (Wakeup id) holds = holds
  said_keeps unlisted (Switch from stays to) holds = named_keeps (with_named ids unlisted from) to (named_keeps unlisted from holds)

  pub lines_keep : (unlisted : List ℕ) (used : List UsedLine) → P unlisted
      → P (fold (λ known (line : UsedLine). with_said ids known line.said) unlisted used)
  lines_keep unlisted [] holds = holds
  lines_keep unlisted (line ∷ rest) holds = lines_keep (with_said ids unlisted line.said) rest (said_keeps unlisted line.said holds)

few_more : (unlisted : List ℕ) (id : ℕ) → length unlisted < 1024 → length (with_id unlisted id) ≤ 1024
few_more unlisted id few = by (is_among id unlisted)
  where
    by : (b : Bool) → length (if b then unlisted else unlisted ++ id ∷ []) ≤ 1024
    by true = omega (arith, few)
    by false = let long = length-append unlisted (id ∷ []) in omega (arith, few, long)

pub unlisted_few : (ids : List ℕ) (used : List UsedLine) → length (unlisted_of ids used) ≤ 1024
unlisted_few ids used =
    lines_keep (λ unlisted. length unlisted ≤ 1024) ids (λ unlisted thread holds is few. few_more unlisted thread.id few) [] used
    (omega arith)

-- the ids of threads
abbrev pub IsId : ℕ → Type 0
IsId id = id ≤ 4194304

ids_more : (unlisted : List ℕ) (id : ℕ) → IsId id → All IsId unlisted → All IsId (with_id unlisted id)
ids_more unlisted id is all = by (is_among id unlisted)
  where
    by : (b : Bool) → All IsId (if b then unlisted else unlisted ++ id ∷ [])
    by true = all
    by false = All-push IsId unlisted id all is

has_id : (ids : List ℕ) (thread : Thread) → is_unlisted ids thread ≡ true → IsId thread.id
has_id ids thread is =
    let last = not (is_among thread.id ids) in
    let least = nat_lt 0 thread.id in
    let most = nat_le thread.id 4194304 in
    leb-true thread.id 4194304
    (and_right (thread.is_real_time && least) most (and_left (thread.is_real_time && least && most) last is))

pub unlisted_ids : (ids : List ℕ) (used : List UsedLine) → All IsId (unlisted_of ids used)
unlisted_ids ids used =
    lines_keep (All IsId) ids (λ unlisted thread all is few. ids_more unlisted thread.id (has_id ids thread is) all) [] used (All-nil IsId)

-- ---- the number of a thread
past : (unlisted : List ℕ) (id : ℕ) → 4194304 < id → All IsId unlisted → position_or_len (nat_eq id) unlisted ≡ length unlisted
past [] id large all = refl
past (one ∷ rest) id large all =
    let small : one ≤ 4194304 = All-head IsId one rest all in
    position_later (nat_eq id) one rest (ne_eqb id one (λ same. omega (arith, small, large, same)))
    ∙ ap suc (past rest id large (All-tail IsId one rest all))

none_large : (unlisted : List ℕ) (id : ℕ) → 4194304 < id → All IsId unlisted → None ≡ position (nat_eq id) unlisted
none_large unlisted id large all =
    let end = past unlisted id large all in
    let out : nat_lt (position_or_len (nat_eq id) unlisted) (length unlisted) ≡ false = le-ltb _ _ (omega (arith, end)) in
    sym (ap (λ (b : Bool). if b then Some (position_or_len (nat_eq id) unlisted) else None) out)

above : (id : ℕ) → nat_le id 4194304 ≡ false → 4194304 < id
above id large = elim (cases_lt 4194304 id) [
  | inl is ↦ is
  | inr small ↦ absurd (true≢false (sym (le-leb id 4194304 small) ∙ large))
]

pub settles : (ids unlisted : List ℕ) (id : ℕ) → All IsId unlisted
    → option_and_then (settled (length ids) unlisted) (number_read ids id) ≡ number_of ids unlisted id
settles ids unlisted id all = by (position (nat_eq id) ids) (λ k e. (position_some (nat_eq id) ids k (sym e)).1)
  where
    other : (b : Bool) → nat_le id 4194304 ≡ b
        → option_and_then (settled (length ids) unlisted) (if b then Some (length ids + id) else None)
        ≡ option_map (λ k. length ids + k) (position (nat_eq id) unlisted)
    other true small =
        let behind : nat_lt (length ids + id) (length ids) ≡ false = le-ltb _ _ (omega arith) in
        let same : length ids + id - length ids ≡ id = omega arith in
        ap (λ (b : Bool). if b then Some (length ids + id) else option_map (λ k. length ids + k)
        (position (nat_eq (length ids + id - length ids)) unlisted)) behind
        ∙ ap (λ (n : ℕ). option_map (λ k. length ids + k) (position (nat_eq n) unlisted)) same
    other false large =
        ap (λ (place : Option ℕ). option_map (λ k. length ids + k) place)
        (none_large unlisted id (above id large) all)

    by : (found : Option ℕ) → ((k : ℕ) → found ≡ Some k → k < length ids)
        → option_and_then (settled (length ids) unlisted) (read_as (length ids) id found)
        ≡ numbered (length ids) found (position (nat_eq id) unlisted)
    by (Some k) within =
        ap (λ (b : Bool). if b then Some k else option_map (λ n. length ids + n) (position (nat_eq (k - length ids)) unlisted))
        (lt-ltb k (length ids) (within k refl))
    by None within = other (nat_le id 4194304) refl

-- ---- lines with other numbers
-- a line with what it says of threads made into something else
abbrev recast : (TaskChange → TaskChange) → UsedLine → UsedLine
recast g line = record line { change = g line.change }

module _ (ids : List ℕ) (number other : ℕ → Option ℕ) (g h : TaskChange → TaskChange)
    (alike : (change : Change) (processor : Option ℕ)
    → option_map g (task_change ids number change processor) ≡ option_map h (task_change ids other change processor))
    (window : Option WindowData) where
  told_recast : (f : TaskChange → TaskChange) (before : List Readiness) (time : ℕ) (change : Change) (told : Option TaskChange)
      → map (recast f) (used_told ids before time change told) ≡ used_told ids before time change (option_map f told)
  told_recast f before time change None = refl
  told_recast f before time change (Some told) = refl

  said_recast : (before : List Readiness) (said : SaidData) (processor : Option ℕ)
      → map (recast g) (used_said ids number window before said processor)
      ≡ map (recast h) (used_said ids other window before said processor)
  said_recast before Nothing processor = refl
  said_recast before LostEvents processor = refl
  said_recast before Malformed processor = refl
  said_recast before (Happened time change) processor = by (is_in_window window time)
    where
      by : (b : Bool)
          → map (recast g) (if b then used_told ids before time change (task_change ids number change processor) else [])
          ≡ map (recast h) (if b then used_told ids before time change (task_change ids other change processor) else [])
      by true =
          told_recast g before time change (task_change ids number change processor)
          ∙ ap (used_told ids before time change) (alike change processor)
          ∙ sym (told_recast h before time change (task_change ids other change processor))
      by false = refl

  pub lines_recast : (waking : Bool) (before : List Readiness) (lines : List (List ℕ))
      → map (recast g) (used_lines waking ids number window before lines) ≡ map (recast h) (used_lines waking ids other window before lines)
  lines_recast waking before [] = refl
  lines_recast waking before (line ∷ rest) =
      let said : SaidData = said_by waking (fields_of line) in
      let processor = processor_of waking (fields_of line) in
      let later : List Readiness = before ++ mentions_said ids window said in
      map-append (recast g) (used_said ids number window before said processor) (used_lines waking ids number window later rest)
      ∙ ap (λ (first : List UsedLine). first ++ map (recast g) (used_lines waking ids number window later rest))
      (said_recast before said processor)
      ∙ ap (λ (last : List UsedLine). map (recast h) (used_said ids other window before said processor) ++ last)
      (lines_recast waking later rest)
      ∙ sym (map-append (recast h) (used_said ids other window before said processor) (used_lines waking ids other window later rest))

recast_same : (used : List UsedLine) → map (recast (λ change. change)) used ≡ used
recast_same [] = refl
recast_same (line ∷ rest) = ap (λ (later : List UsedLine). line ∷ later) (recast_same rest)

from_recast : (g : TaskChange → TaskChange) (used : List UsedLine) → from_turn (map (recast g) used) ≡ map (recast g) (from_turn used)
from_recast g [] = refl
from_recast g (line ∷ rest) = by (turns line) (from_recast g rest)
  where
    by : (b : Bool) → from_turn (map (recast g) rest) ≡ map (recast g) (from_turn rest)
        → (if b then recast g line ∷ map (recast g) rest else from_turn (map (recast g) rest))
        ≡ map (recast g) (if b then line ∷ rest else from_turn rest)
    by true later = refl
    by false later = later

first_recast : (g : TaskChange → TaskChange) (used : List UsedLine) → first_use (map (recast g) used) ≡ first_use used
first_recast g [] = refl
first_recast g (line ∷ rest) = refl

apart_recast : (g : TaskChange → TaskChange) (ids known : List ℕ) (used : List UsedLine)
    → fold (λ known (line : UsedLine). with_said ids known line.said) known (map (recast g) used)
    ≡ fold (λ known (line : UsedLine). with_said ids known line.said) known used
apart_recast g ids known [] = refl
apart_recast g ids known (line ∷ rest) = apart_recast g ids (with_said ids known line.said) rest

-- ---- what does not rest on numbers
-- nothing is said of threads
abbrev silent : TaskChange → TaskChange
silent told = task.Wakeup None

silent_alike : (ids : List ℕ) (number other : ℕ → Option ℕ) (change : Change) (processor : Option ℕ)
    → option_map silent (task_change ids number change processor) ≡ option_map silent (task_change ids other change processor)
silent_alike ids number other (Wakeup id) processor = refl
silent_alike ids number other (Switch from stays to) None = refl
silent_alike ids number other (Switch from stays to) (Some processor) = refl

module _ (waking : Bool) (ids : List ℕ) (number other : ℕ → Option ℕ) (window : Option WindowData) (lines : List (List ℕ)) where
  abbrev one : List UsedLine
  one = used_lines waking ids number window [] lines

  abbrev two : List UsedLine
  two = used_lines waking ids other window [] lines

  same : map (recast silent) one ≡ map (recast silent) two
  same = lines_recast ids number other silent silent (silent_alike ids number other) window waking [] lines

  pub one_apart : unlisted_of ids one ≡ unlisted_of ids two
  one_apart = sym (apart_recast silent ids [] one) ∙ ap (unlisted_of ids) same ∙ apart_recast silent ids [] two

  pub one_start : first_use (from_turn one) ≡ first_use (from_turn two)
  one_start =
      sym (first_recast silent (from_turn one)) ∙ ap first_use (sym (from_recast silent one)) ∙ ap (λ (used : List UsedLine).
      first_use (from_turn used)) same
      ∙ ap first_use (from_recast silent two) ∙ first_recast silent (from_turn two)

-- ---- passages with the numbers of the end
abbrev resettled : ℕ → List ℕ → TaskChange → TaskChange
resettled tasks unlisted (task.Wakeup woken) = task.Wakeup woken
resettled tasks unlisted (task.Switch processor from to) =
    task.Switch processor (option_and_then (settled tasks unlisted) from) (option_and_then (settled tasks unlisted) to)

settled_alike : (ids unlisted : List ℕ) → All IsId unlisted → (change : Change) (processor : Option ℕ)
    → option_map (resettled (length ids) unlisted) (task_change ids (number_read ids) change processor)
    ≡ option_map (λ change. change) (task_change ids (number_of ids unlisted) change processor)
settled_alike ids unlisted all (Wakeup id) processor = refl
settled_alike ids unlisted all (Switch from stays to) None = refl
settled_alike ids unlisted all (Switch from stays to) (Some processor) =
    ap (λ (left : Option ℕ). Some (task.Switch processor left (option_and_then (settled (length ids) unlisted) (number_read ids to.id))))
    (settles ids unlisted from.id all)
    ∙ ap (λ (comes : Option ℕ). Some (task.Switch processor (number_of ids unlisted from.id) comes)) (settles ids unlisted to.id all)

turn_settled : (tasks : ℕ) (unlisted : List ℕ) (told : TaskChange) (first : Option Readiness)
    → turn_of (resettled tasks unlisted told) first ≡ option_map (settled_turn tasks unlisted) (turn_of told first)
turn_settled tasks unlisted (task.Wakeup None) first = refl
turn_settled tasks unlisted (task.Wakeup (Some woken)) None = refl
turn_settled tasks unlisted (task.Wakeup (Some woken)) (Some mention) = refl
turn_settled tasks unlisted (task.Switch processor from to) first = refl

passage_settled : (tasks : ℕ) (unlisted : List ℕ) (start : ℕ) (line : UsedLine)
    → passage_since start (recast (resettled tasks unlisted) line) ≡ settled_passage tasks unlisted (passage_since start line)
passage_settled tasks unlisted start line =
    ap (λ (turn : Option Turn). record (passage_since start line) { turn = turn }) (turn_settled tasks unlisted line.change line.first)

all_settled : (tasks : ℕ) (unlisted : List ℕ) (start : ℕ) (used : List UsedLine)
    → map (passage_since start) (map (recast (resettled tasks unlisted)) used)
    ≡ map (settled_passage tasks unlisted) (map (passage_since start) used)
all_settled tasks unlisted start [] = refl
all_settled tasks unlisted start (line ∷ rest) =
    ap (λ (first : Passage). first ∷ map (passage_since start) (map (recast (resettled tasks unlisted)) rest))
    (passage_settled tasks unlisted start line)
    ∙ ap (λ (later : List Passage). settled_passage tasks unlisted (passage_since start line) ∷ later)
    (all_settled tasks unlisted start rest)

since_settled : (tasks : ℕ) (unlisted : List ℕ) (used : List UsedLine)
    → passages_since (map (recast (resettled tasks unlisted)) used) ≡ map (settled_passage tasks unlisted) (passages_since used)
since_settled tasks unlisted [] = refl
since_settled tasks unlisted (line ∷ rest) = all_settled tasks unlisted line.time (line ∷ rest)

pub passages_settled : (waking : Bool) (ids unlisted : List ℕ) (window : Option WindowData) (lines : List (List ℕ)) → All IsId unlisted
    → map (settled_passage (length ids) unlisted) (passages_since (from_turn (used_lines waking ids (number_read ids) window [] lines)))
    ≡ passages_in waking ids (number_of ids unlisted) window lines
passages_settled waking ids unlisted window lines all =
    let read : List UsedLine = used_lines waking ids (number_read ids) window [] lines in
    let end : List UsedLine = used_lines waking ids (number_of ids unlisted) window [] lines in
    let g : TaskChange → TaskChange = resettled (length ids) unlisted in
    let equal : map (recast g) read ≡ end =
    lines_recast ids (number_read ids) (number_of ids unlisted) g (λ change. change) (settled_alike ids unlisted all) window waking [] lines
    ∙ recast_same end in
    sym (since_settled (length ids) unlisted (from_turn read))
    ∙ ap passages_since (sym (from_recast g read) ∙ ap from_turn equal)
