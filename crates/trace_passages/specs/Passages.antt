-- Passages. A passage is what a used line of a trace says: at its moment a processor goes from one
-- thread to another, or a task wakes up, and then up to two tasks become ready or absent. The first
-- of the threads are the tasks, by their numbers.
use Rattle.std.specs.Prelude.{◌≡◌, ℕ, ◌-◌, ◌<◌, ◌≤◌, List, length, map, get_or, slice_get, Option}
use Rattle.std.specs.Prelude.{Some}
use Rattle.std.specs.Option.{ForSome}
use Rattle.trace_passages.specs.Turns.{AreThreads}
use Rattle.trace_passages.specs.declared.passage.Passage.{Passage}
use Rattle.trace_passages.specs.declared.passage.Readiness.{Readiness}

-- the mention, if there is one, is of one of so many tasks
abbrev pub IsMentionOf : ℕ → Option Readiness → Type 0
IsMentionOf tasks mention = ForSome mention (λ (m : Readiness). m.task < tasks)

-- the passage is of so many tasks and threads
pub record IsPassageOf (tasks threads : ℕ) (passage : Passage) : Type 0 where
  pub turn : ForSome passage.turn (AreThreads threads)
  pub first : IsMentionOf tasks passage.first
  pub second : IsMentionOf tasks passage.second

-- the passages are of so many tasks and threads, the first one is at moment 0, and no moment is
-- before an earlier one
pub record ArePassages (tasks threads : ℕ) (passages : List Passage) : Type 0 where
  pub all : tasks ≤ threads
  pub each : (k : ℕ) (passage : Passage) → slice_get passages k ≡ Some passage
      → IsPassageOf tasks threads passage
  pub begin : (passage : Passage) → slice_get passages 0 ≡ Some passage → passage.moment ≡ 0
  pub in_order : (k l : ℕ) (one other : Passage) → k ≤ l → slice_get passages k ≡ Some one
      → slice_get passages l ≡ Some other
      → one.moment ≤ other.moment

-- the moment of a passage; 0 where there is none
abbrev pub moment_at : List Passage → ℕ → ℕ
moment_at passages k = get_or (map (λ (passage : Passage). passage.moment) passages) k 0

-- the moment of the last passage; 0 where there is none
abbrev pub span_of : List Passage → ℕ
span_of passages = moment_at passages (length passages - 1)
