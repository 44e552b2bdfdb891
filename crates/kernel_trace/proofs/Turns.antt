-- What mentions and passages say, one after another.
use Rattle.std.proofs.Common.{◌≡◌, ℕ, ◌<◌, ◌≤◌, ◌==◌, Bool, true, false, set, eq-eqb, ne_eqb, inl, inr, List, [], ◌∷◌, ◌++◌, length, Option}
use Rattle.std.proofs.Common.{None, Some, refl, sym, ap, ◌∙◌, subst, arith, append_assoc, append-nil}
use Rattle.std.specs.Prelude.{option_to_list, ◌||◌, if◌then◌else◌}
use Rattle.std.specs.Option.{ForSome}
use Rattle.std.proofs.lemmas.Bool.{cases_eq}
use Rattle.std.proofs.lemmas.List.{map-append, get_or-set_same, get_or-set_other}
use Rattle.std.proofs.lemmas.List.Folds.{list_any-append}
use Rattle.kernel_trace.specs.Course.{mention_of, mentions, agrees, says_ready, is_mentioned, standing_of, standing_after}
use Rattle.kernel_trace.specs.Import.{mention_says, is_last_in}
use Rattle.kernel_trace.specs.Passage.{first_mention, second_mention, changing, marked, span_of}
use Rattle.kernel_trace.specs.Passages.{UsedLine, turning, turns, from_turn, passage_since, passages_since, all_changes, is_named_in}
use Rattle.kernel_trace.specs.Passages.{AllTurn, NeverFall}
use Rattle.kernel_trace.specs.declared.change.Change.{Change}
use Rattle.kernel_trace.specs.declared.change.Change.TheVariants.{Wakeup, Switch}
use Rattle.trace_passages.specs.declared.passage.Readiness.{Readiness}
use Rattle.kernel_trace.specs.declared.change.Standing.{Standing}
use Rattle.kernel_trace.specs.declared.change.Standing.TheVariants.{Unmentioned}
use Rattle.trace_passages.specs.declared.passage.Passage.{Passage}
use Rattle.kernel_trace.proofs.Imports.{fold_append, mentioned, standing_mentions, same_mention, agreed}

-- ---- one mention more
-- the last mentions of these are those that are known
abbrev pub Said : List Standing → List Readiness → Type 0
Said standings ms = (t : ℕ) → is_last_in t ms ≡ says_ready (standing_of standings t)

-- the tasks of a mention are among those that are known
abbrev pub IsKnown : List Standing → Option Readiness → Type 0
IsKnown standings m = ForSome m (λ (m : Readiness). m.task < length standings)

pub mark_said : (standings : List Standing) (ms : List Readiness) (m : Option Readiness) → IsKnown standings m → Said standings ms
    → Said (marked standings m) (ms ++ option_to_list m)
mark_said standings ms None known said t = ap (is_last_in t) (append-nil ms) ∙ said t
mark_said standings ms (Some m) known said t =
    fold_append (mention_says t) false ms (m ∷ [])
    ∙ ap (λ (before : Bool). mentioned m.task m.is_in before t) (said t)
    ∙ sym (standing_mentions standings m t (known m refl))

-- these mentions are of the tasks that are known as mentioned
abbrev pub Named : List Standing → List Readiness → Type 0
Named standings ms = (t : ℕ) → is_mentioned (standing_of standings t) ≡ is_named_in t ms

mentioned_after : (is_in : Bool) → is_mentioned (standing_after is_in) ≡ true
mentioned_after true = refl
mentioned_after false = refl

or_true : (b : Bool) → (b || true) ≡ true
or_true true = refl
or_true false = refl

or_false : (b : Bool) → (b || false) ≡ b
or_false true = refl
or_false false = refl

-- one mention more is of its task
named_more : (t : ℕ) (ms : List Readiness) (m : Readiness) (b : Bool) → (m.task == t) ≡ b
    → is_named_in t (ms ++ m ∷ []) ≡ (is_named_in t ms || b)
named_more t ms m b is =
    list_any-append (λ (m : Readiness). m.task == t) ms (m ∷ [])
    ∙ ap (λ (here : Bool). is_named_in t ms || here) (or_false (m.task == t) ∙ is)

pub mark_named : (standings : List Standing) (ms : List Readiness) (m : Option Readiness) → IsKnown standings m → Named standings ms
    → Named (marked standings m) (ms ++ option_to_list m)
mark_named standings ms None known named t = named t ∙ ap (is_named_in t) (sym (append-nil ms))
mark_named standings ms (Some m) known named t = elim (cases_eq m.task t) [
  | inl same ↦ (
      let here : standing_of (set standings m.task (standing_after m.is_in)) m.task
      ≡ standing_after m.is_in = get_or-set_same standings m.task (standing_after m.is_in) Unmentioned (known m refl) in
      let there : standing_of (set standings m.task (standing_after m.is_in)) t ≡ standing_after m.is_in =
      subst (λ (n : ℕ). standing_of (set standings m.task (standing_after m.is_in)) n ≡ standing_after m.is_in) same here in
      ap is_mentioned there ∙ mentioned_after m.is_in ∙ sym (named_more t ms m true (eq-eqb m.task t same) ∙ or_true (is_named_in t ms)))
  | inr differs ↦ (
      ap is_mentioned (get_or-set_other standings m.task t (standing_after m.is_in) Unmentioned (λ e. differs (sym e)))
      ∙ named t
      ∙ sym (named_more t ms m false (ne_eqb m.task t differs) ∙ or_false (is_named_in t ms)))
]

-- a mention changes its task where it says otherwise than the last one
pub changing_is : (standings : List Standing) (ms : List Readiness) (m : Option Readiness) → Said standings ms
    → changing standings m ≡ turning ms m
changing_is standings ms None said = refl
changing_is standings ms (Some m) said = ap (λ (before : Bool). if agrees before m.is_in then None else Some m) (sym (said m.task))

-- those that change their task say the same as all
pub change_said : (standings : List Standing) (ms : List Readiness) (m : Option Readiness) → IsKnown standings m → Said standings ms
    → Said (marked standings m) (ms ++ option_to_list (changing standings m))
change_said standings ms None known said t = ap (is_last_in t) (append-nil ms) ∙ said t
change_said standings ms (Some m) known said t = by (agrees (says_ready (standing_of standings m.task)) m.is_in) refl
  where
    by : (b : Bool) → agrees (says_ready (standing_of standings m.task)) m.is_in ≡ b
        → is_last_in t (ms ++ option_to_list (if b then None else Some m)) ≡ says_ready (standing_of (marked standings (Some m)) t)
    by true same =
        ap (is_last_in t) (append-nil ms) ∙ said t
        ∙ same_mention (says_ready (standing_of standings t)) m.is_in m.task t
        (λ here. subst (λ (n : ℕ). says_ready (standing_of standings n) ≡ m.is_in) here
        (agreed (says_ready (standing_of standings m.task)) m.is_in same))
        ∙ sym (standing_mentions standings m t (known m refl))
    by false other = mark_said standings ms (Some m) known said t

pub turn_append : (before xs ys : List Readiness) → AllTurn before xs → AllTurn (before ++ xs) ys → AllTurn before (xs ++ ys)
turn_append before [] ys one two = subst (λ (b : List Readiness). AllTurn b ys) (append-nil before) two
turn_append before (x ∷ xs) ys one two = (
  one.0,
  turn_append (before ++ x ∷ []) xs ys one.1
      (subst (λ (b : List Readiness). AllTurn b ys) (sym (append_assoc before (x ∷ []) xs)) two),
)

pub change_turns : (standings : List Standing) (ms : List Readiness) (m : Option Readiness) → Said standings ms
    → AllTurn ms (option_to_list (changing standings m))
change_turns standings ms None said = tt
change_turns standings ms (Some m) said = by (agrees (says_ready (standing_of standings m.task)) m.is_in) refl
  where
    by : (b : Bool) → agrees (says_ready (standing_of standings m.task)) m.is_in ≡ b
        → AllTurn ms (option_to_list (if b then None else Some m))
    by true same = tt
    by false other = (ap (λ (before : Bool). agrees before m.is_in) (said m.task) ∙ other, tt)

-- ---- the two mentions of a line
pub mentions_are : (ids : List ℕ) (change : Change) → mentions ids change ≡ option_to_list (first_mention ids change)
    ++ option_to_list (second_mention ids change)
mentions_are ids (Wakeup id) = sym (append-nil (option_to_list (mention_of ids id true)))
mentions_are ids (Switch from stays to) = refl

-- ---- one used line more
pub from_none : (used : List UsedLine) (line : UsedLine) → from_turn used ≡ [] → from_turn (used ++ line ∷ []) ≡ from_turn (line ∷ [])
from_none [] line none = refl
from_none (first ∷ rest) line none = by (turns first) (λ e. from_none rest line e) none
  where
    by : (b : Bool) → (from_turn rest ≡ [] → from_turn (rest ++ line ∷ []) ≡ from_turn (line ∷ []))
        → (if b then first ∷ rest else from_turn rest) ≡ [] → (if b then first ∷ (rest ++ line ∷ []) else from_turn (rest ++ line ∷ []))
        ≡ from_turn (line ∷ [])
    by true later none = cc
    by false later none = later none

pub from_some : (used : List UsedLine) (line first : UsedLine) (rest : List UsedLine) → from_turn used ≡ first ∷ rest
    → from_turn (used ++ line ∷ []) ≡ first ∷ (rest ++ line ∷ [])
from_some [] line first rest some = cc
from_some (x ∷ xs) line first rest some = by (turns x) (λ e. from_some xs line first rest e) some
  where
    by : (b : Bool) → (from_turn xs ≡ first ∷ rest → from_turn (xs ++ line ∷ []) ≡ first ∷ (rest ++ line ∷ []))
        → (if b then x ∷ xs else from_turn xs) ≡ first ∷ rest
        → (if b then x ∷ (xs ++ line ∷ []) else from_turn (xs ++ line ∷ [])) ≡ first ∷ (rest ++ line ∷ [])
    by true later some = ap (λ (all : List UsedLine). all ++ line ∷ []) some
    by false later some = later some

pub passages_more : (first : UsedLine) (rest : List UsedLine) (line : UsedLine)
    → passages_since (first ∷ (rest ++ line ∷ [])) ≡ passages_since (first ∷ rest) ++ passage_since first.time line ∷ []
passages_more first rest line = map-append (passage_since first.time) (first ∷ rest) (line ∷ [])

-- ---- one passage more
pub changes_append : (xs ys : List Passage) → all_changes (xs ++ ys) ≡ all_changes xs ++ all_changes ys
changes_append [] ys = refl
changes_append (x ∷ xs) ys =
    ap (λ (more : List Readiness). option_to_list x.first ++ option_to_list x.second ++ more) (changes_append xs ys)
    ∙ sym (append_assoc (option_to_list x.first ++ option_to_list x.second) (all_changes xs) (all_changes ys))

pub span_append : (passages : List Passage) (passage : Passage) → span_of (passages ++ passage ∷ []) ≡ passage.moment
span_append [] passage = refl
span_append (one ∷ []) passage = refl
span_append (one ∷ two ∷ rest) passage = span_append (two ∷ rest) passage

-- moments that never fall are at most the last one
below_last : (moment : ℕ) (one : Passage) (rest : List Passage) → NeverFall moment (one ∷ rest) → moment ≤ span_of (one ∷ rest)
below_last moment one [] falls = falls.0
below_last moment one (two ∷ rest) falls =
    let first = falls.0 in let later = below_last one.moment two rest falls.1 in omega (arith, first, later)

pub fall_append : (moment : ℕ) (passages : List Passage) (passage : Passage) → moment ≤ passage.moment → NeverFall moment passages
    → span_of passages ≤ passage.moment → NeverFall moment (passages ++ passage ∷ [])
fall_append moment [] passage most falls last = (most, tt)
fall_append moment (one ∷ []) passage most falls last = (falls.0, (last, tt))
fall_append moment (one ∷ two ∷ rest) passage most falls last =
    let later = below_last one.moment two rest falls.1 in
    (falls.0, fall_append one.moment (two ∷ rest) passage (omega (arith, later, last)) falls.1 last)
