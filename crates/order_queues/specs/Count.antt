-- The rule of a count: one seat writes the word and knows its number; what any other knows is at
-- most that.
use Rattle.std.specs.Prelude.{◌≡◌, ℕ, ◌≤◌, max, cond, Bool, true, false, List, [], ◌∷◌, ◌++◌}
use Rattle.std.specs.Prelude.{length, slice_index}
use mathlib.Core.Option.{some}
use lib.ListN.{get_elem?}
use Rattle.atomic_table.specs.Table.{State, Me, Step}
use Rattle.order_queues.specs.declared.count.CountView.{CountView}
use Rattle.task_set.specs.Sum.{total}

-- 1 for a view that writes, and 0 for any other
abbrev pub writers : CountView → ℕ
writers v = cond v.writes 1 0

-- a view by its four fields
abbrev pub view : Bool → ℕ → ℕ → List ℕ → CountView
view writes number known looks =
    record { writes = writes; number = number; known = known; looks = looks }

-- the writer, when the word is n
abbrev pub writer_view : ℕ → CountView
writer_view n = view true n 0 []

-- a reader that knows so much and whose looks found this
abbrev pub reader_view : ℕ → List ℕ → CountView
reader_view known looks = view false 0 known looks

-- a note of the writer's number
abbrev pub note_view : CountView → CountView
note_view v = view false v.number 0 []

-- a reader that was given a note: it knows what it knew and what the note says, and has its looks
abbrev pub informed_view : CountView → CountView → CountView
informed_view v note = reader_view (max v.known note.number) v.looks

-- a note that was given
abbrev pub spent_view : CountView
spent_view = view false 0 0 []

-- the writer's number is the word, and nobody knows more than the word
abbrev pub Knows : ℕ → CountView → Type 0
Knows word v = (v.writes ≡ true → v.number ≡ word) × (v.known ≤ word) × (v.number ≤ word)

-- between any two steps: there is one word and one writer, and each view knows what it may
pub record CountRule (s : State (Unit {0}) CountView) : Type 0 where
  pub one_word : length s.words ≡ 1
  pub one_writer : total writers s.views ≡ 1
  pub knows : (j : ℕ) (v : CountView) → get_elem? s.views j ≡ some v
      → Knows (slice_index s.words 0) v

-- a seat's view, and the slots that it holds
abbrev pub Seated : Type 0
Seated = Me (Unit {0}) CountView

-- a store: the writer's number is what it stored
abbrev pub Stored : Step (Unit {0}) → Seated → ℕ → Seated → Type 0
Stored st m n m' = m' ≡ (writer_view st.first, m.1)

-- a load: the look is what it found, at least what was known, and is known from then on
abbrev pub Looked : Step (Unit {0}) → Seated → ℕ → Seated → Type 0
Looked st m n m' = (m' ≡ (reader_view n (m.0.looks ++ n ∷ []), m.1)) × (m.0.known ≤ n)
