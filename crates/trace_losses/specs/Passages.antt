-- Passages. At each moment some of the passages of a trace have come, and the others come later.
-- Those that have come are listed from the last one to the first.
use Rattle.std.specs.Prelude.{◌≡◌, ℕ, ◌-◌, ◌<◌, ◌≤◌, ◌↔◌, Bool, false, ◌==◌, List, [], ◌∷◌, length}
use Rattle.std.specs.Prelude.{map, take, drop, reverse, get_or, slice_get, Option, None, Some}
use Rattle.std.specs.Prelude.{IsTrue, if◌then◌else◌}
use Rattle.std.specs.Option.{ForSome}
use Rattle.task_set.specs.TaskSet.{SetData}
use Rattle.strong_apa.specs.State.{start_of}
use Rattle.strong_apa.specs.Placement.{TaskTest, IsBest}
use Rattle.trace_losses.specs.Book.{nothing_seen}
use Rattle.trace_passages.specs.Turns.{AreThreads}
use Rattle.trace_losses.specs.Runs.{runs_between}
use Rattle.trace_passages.specs.declared.passage.Passage.{Passage}
use Rattle.trace_passages.specs.declared.passage.Readiness.{Readiness}
use Rattle.trace_losses.specs.declared.seen.Seen.{Seen}
use Rattle.trace_passages.specs.declared.turn.Turn.{Turn}

-- whether a task is ready after a mention, if there is one, by whether it was before it
abbrev pub ready_by : Option Readiness → ℕ → Bool → Bool
ready_by None t before = before
ready_by (Some mention) t before = if mention.task == t then mention.is_in else before

-- whether a task is ready after some passages, the last one first; at first nobody is
abbrev pub ready_after_passages : List Passage → TaskTest
ready_after_passages [] t = false
ready_after_passages (passage ∷ earlier) t =
    ready_by passage.second t (ready_by passage.first t (ready_after_passages earlier t))

-- the turns with one more before them, if there is one
abbrev pub with_turn : Option Turn → List Turn → List Turn
with_turn None turns = turns
with_turn (Some turn) turns = turn ∷ turns

-- what some passages say of who runs where
abbrev pub turns_of : List Passage → List Turn
turns_of [] = []
turns_of (passage ∷ rest) = with_turn passage.turn (turns_of rest)

-- the first n passages have come at the moment x, and the others come later
pub record IsCut (passages : List Passage) (x n : ℕ) : Type 0 where
  pub within : n ≤ length passages
  pub come : (k : ℕ) (passage : Passage) → k < n → slice_get passages k ≡ Some passage
      → passage.moment ≤ x
  pub later : (k : ℕ) (passage : Passage) → n ≤ k → slice_get passages k ≡ Some passage
      → x < passage.moment

-- what is seen of a task, where of each one it is said
abbrev pub seen_of : List Seen → ℕ → Seen
seen_of seen t = get_or seen t nothing_seen

-- the tasks that are seen to be in the best set
abbrev pub best_of : List Seen → TaskTest
best_of seen t = (seen_of seen t).best

-- the thread runs on some processor between passages, where those before are listed from the last
-- one on
abbrev pub RunsBetween : List Passage → List Passage → ℕ → Type 0
RunsBetween earlier after t =
    (p : ℕ) × IsTrue (runs_between (turns_of earlier) (turns_of after) t p)

-- this is seen of so many threads between passages, where those before are listed from the last one
-- on: which tasks are ready after them, which of these are the best set that can be placed, and who
-- runs on some processor
pub record IsSeenBetween (set : SetData) (threads : ℕ) (earlier after : List Passage)
    (seen : List Seen) : Type 0 where
  pub count : length seen ≡ threads
  pub ready : (t : ℕ) → t < threads → (seen_of seen t).ready ≡ ready_after_passages earlier t
  pub best : IsBest (start_of set) (ready_after_passages earlier) (best_of seen)
  pub runs : (t : ℕ) → t < threads → IsTrue (seen_of seen t).runs ↔ RunsBetween earlier after t

-- this is seen at the moment x
pub record IsSeenAt (set : SetData) (threads : ℕ) (passages : List Passage) (x : ℕ)
    (seen : List Seen) : Type 0 where
  pub n : ℕ
  pub cut : IsCut passages x n
  pub between : IsSeenBetween set threads (reverse (take n passages)) (drop n passages) seen

-- this is seen at each of these moments
abbrev pub AreSeen : SetData → ℕ → List Passage → List (List Seen) → Type 0
AreSeen set threads passages moments =
    (x : ℕ) (seen : List Seen) → slice_get moments x ≡ Some seen
    → IsSeenAt set threads passages x seen

-- these are so many moments of the passages, from the first one on, and what is seen at each of
-- them
pub record AreMoments (set : SetData) (threads : ℕ) (passages : List Passage) (units : ℕ)
    (moments : List (List Seen)) : Type 0 where
  pub all : length moments ≡ units
  pub seen : AreSeen set threads passages moments
