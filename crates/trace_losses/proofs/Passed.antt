-- Passages that have come, and those that come later.
use Rattle.std.proofs.Common.{◌≡◌, ℕ, ◌+◌, ◌-◌, ◌<◌, ◌≤◌, List, [], ◌∷◌, ◌++◌, length, take, drop, get_or, Option, Some, None, refl, sym}
use Rattle.std.proofs.Common.{ap, ◌∙◌, arith, append-nil}
use Rattle.std.specs.Prelude.{reverse, slice_get}
use Rattle.std.proofs.lemmas.List.{take_more, reverse-append, take-append-drop, get_or-map}
use Rattle.std.proofs.lemmas.Option.{slice_get-get_or, slice_get_within, get_or_from_slice_get}
use Rattle.trace_passages.specs.Passages.{ArePassages, moment_at}
use Rattle.trace_losses.specs.Passages.{with_turn, turns_of, IsCut}
use Rattle.trace_passages.specs.declared.passage.Passage.{Passage}
use Rattle.trace_passages.specs.declared.turn.Turn.{Turn}

-- one more has come
pub earlier_more : (passages : List Passage) (i : ℕ) (d : Passage) → i < length passages
    → reverse (take (i + 1) passages) ≡ get_or passages i d ∷ reverse (take i passages)
earlier_more passages i d below =
    ap {B = List Passage} reverse (take_more passages i d below) ∙ reverse-append (take i passages) (get_or passages i d ∷ [])

-- ---- turns
with_turn_append : (turn : Option Turn) (one other : List Turn) → with_turn turn (one ++ other) ≡ with_turn turn one ++ other
with_turn_append None one other = refl
with_turn_append (Some turn) one other = refl

turns_append : (one other : List Passage) → turns_of (one ++ other) ≡ turns_of one ++ turns_of other
turns_append [] other = refl
turns_append (passage ∷ one) other =
    ap (with_turn passage.turn) (turns_append one other) ∙ with_turn_append passage.turn (turns_of one) (turns_of other)

turn_last : (turn : Option Turn) (turns : List Turn) → reverse turns ++ with_turn turn [] ≡ reverse (with_turn turn turns)
turn_last None turns = append-nil (reverse turns)
turn_last (Some turn) turns = sym (reverse-append (turn ∷ []) turns)

turns_reverse : (passages : List Passage) → turns_of (reverse passages) ≡ reverse (turns_of passages)
turns_reverse [] = refl
turns_reverse (passage ∷ rest) =
    ap turns_of (reverse-append (passage ∷ []) rest) ∙ turns_append (reverse rest) (passage ∷ [])
    ∙ ap (λ (turns : List Turn). turns ++ with_turn passage.turn []) (turns_reverse rest) ∙ turn_last passage.turn (turns_of rest)

-- those that have come and those that come later are all
pub turns_of_all : (passages : List Passage) (n : ℕ)
    → turns_of (reverse passages) ≡ reverse (turns_of (drop n passages)) ++ turns_of (reverse (take n passages))
turns_of_all passages n =
    ap (λ (all : List Passage). turns_of (reverse all)) (sym (take-append-drop n passages))
    ∙ ap turns_of (reverse-append (take n passages) (drop n passages))
    ∙ turns_append (reverse (drop n passages)) (reverse (take n passages))
    ∙ ap (λ (turns : List Turn). turns ++ turns_of (reverse (take n passages))) (turns_reverse (drop n passages))

-- what stands for a passage where there is none
abbrev pub no_passage : Passage
no_passage = record { moment = 0; turn = None; first = None; second = None }

-- ---- moments
pub moment_is : (passages : List Passage) (k : ℕ) (passage : Passage) → slice_get passages k ≡ Some passage
    → moment_at passages k ≡ passage.moment
moment_is passages k passage is =
    get_or-map (λ (x : Passage). x.moment) passages k passage 0 (slice_get_within passages k passage is)
    ∙ ap {B = ℕ} (λ (x : Passage). x.moment) (get_or_from_slice_get passages k passage passage is)

pub moments_in_order : (tasks threads : ℕ) (passages : List Passage) → ArePassages tasks threads passages → (k l : ℕ) (d : Passage) → k ≤ l
    → l < length passages
    → moment_at passages k ≤ moment_at passages l
moments_in_order tasks threads passages are k l d le below =
    let one = slice_get-get_or passages k d (omega arith) in
    let other = slice_get-get_or passages l d below in
    let ordered = are.in_order k l (get_or passages k d) (get_or passages l d) le one other in
    let first = moment_is passages k (get_or passages k d) one in
    let second = moment_is passages l (get_or passages l d) other in
    omega (arith, ordered, first, second)

-- the first passages have come at a moment from the last of these up to the next one
pub cut_at : (tasks threads : ℕ) (passages : List Passage) → ArePassages tasks threads passages → (i x : ℕ) → 0 < i → i < length passages
    → moment_at passages (i - 1) ≤ x → x < moment_at passages i → IsCut passages x i
cut_at tasks threads passages are i x some below from before = record {
  within = omega arith;
  come = λ k passage early is.
      (let at = moment_is passages k passage is in
      let le = moments_in_order tasks threads passages are k (i - 1) passage (omega arith) (omega arith) in
      omega (arith, at, le));
  later = λ k passage late is.
      (let at = moment_is passages k passage is in
      let le = moments_in_order tasks threads passages are i k passage late (slice_get_within passages k passage is) in
      omega (arith, at, le));
}

-- each passage is at a moment that the next one is not before
pub next_is_later : (tasks threads : ℕ) (passages : List Passage) → ArePassages tasks threads passages → (i : ℕ) → 0 < i
    → i < length passages
    → (get_or passages (i - 1) no_passage).moment ≤ (get_or passages i no_passage).moment
next_is_later tasks threads passages are i some below =
    are.in_order (i - 1) i (get_or passages (i - 1) no_passage) (get_or passages i no_passage) (omega arith)
    (slice_get-get_or passages (i - 1) no_passage (omega arith)) (slice_get-get_or passages i no_passage below)

pub moment_there : (passages : List Passage) (i : ℕ) → i < length passages → moment_at passages i ≡ (get_or passages i no_passage).moment
moment_there passages i below = moment_is passages i (get_or passages i no_passage) (slice_get-get_or passages i no_passage below)

-- the passage before the next one has come
pub before_next : (passages : List Passage) (i : ℕ) → 0 < i → i < length passages
    → get_or passages (i - 1) no_passage ∷ reverse (take (i - 1) passages) ≡ reverse (take i passages)
before_next passages i some below =
    let place : i - 1 + 1 ≡ i = omega (arith, some) in
    sym (earlier_more passages (i - 1) no_passage (omega arith)) ∙ ap (λ (n : ℕ). reverse (take n passages)) place
