-- The bars of the rows: at which moments a task ran, was lost, and waited rightly.
use Rattle.std.specs.Prelude.{ℕ, ◌+◌, ◌-◌, ◌*◌, ◌%◌, ◌==◌, Bool, List, [], ◌++◌, codes, position}
use Rattle.std.specs.Prelude.{Option}
use Rattle.std.specs.Prelude.{Some, None}
use Rattle.affinity_mask.specs.Number.{canonical_number}
use Rattle.trace_bars.specs.declared.mark.Bar.{Bar}
use Rattle.trace_bars.specs.declared.mark.Mark.{Mark}
use Rattle.trace_bars.specs.declared.mark.Mark.TheVariants.{Runs, Linked, Ran, Lost, Waits}
use Rattle.trace_picture.specs.Lanes.{extent_text}
use Rattle.trace_picture.specs.Scene.{SceneData, name_at}

-- what a row says of a task: a thread on a processor runs
abbrev pub word_of : Mark → List ℕ
word_of (Runs p) = codes "ran"
word_of (Linked p) = codes "ran"
word_of Ran = codes "ran"
word_of Lost = codes "lost"
word_of Waits = codes "waited"

-- where the bar is in this row, of the class that the word names: `lost` is red
unfoldable pub rect_text : SceneData → ℕ → Bar → List ℕ
rect_text scene row bar =
    codes "<rect class=\"c" ++ canonical_number (bar.thread % 24) ++ codes " " ++ word_of bar.mark
    ++ codes "\" x=\"" ++ canonical_number (bar.from - scene.part.from)
    ++ codes "\" y=\"" ++ canonical_number (8 * row + 2)
    ++ codes "\" width=\"" ++ canonical_number (bar.to - bar.from) ++ codes "\" height=\"4\">"

-- of whom it says what
unfoldable pub title_text : SceneData → Bar → List ℕ
title_text scene bar =
    codes "<title>" ++ name_at scene bar.thread ++ codes " " ++ word_of bar.mark

-- a bar in this row
unfoldable pub row_text : SceneData → ℕ → Bar → List ℕ
row_text scene row bar = rect_text scene row bar ++ title_text scene bar ++ extent_text scene bar

abbrev pub is_task : ℕ → ℕ → Bool
is_task thread task = task == thread

-- the same in a row, if there is one
abbrev pub row_text_at : SceneData → Option ℕ → Bar → List ℕ
row_text_at scene None bar = []
row_text_at scene (Some row) bar = row_text scene row bar

-- in the row of its task, where that is listed
unfoldable pub row_bar : SceneData → List ℕ → Bar → List ℕ
row_bar scene listed bar = row_text_at scene (position (is_task bar.thread) listed) bar
