-- The two groups of a picture: the lanes of the processors, and the rows of the tasks. Each
-- rectangle is the part of one span within the window, in the places of the picture's axis: nothing
-- is rounded, as the scale stands in the view box.
use Rattle.std.specs.Prelude.{ℕ, ◌+◌, ◌*◌, ◌-◌, min, max, nat_lt, List, [], ◌++◌, length, codes}
use Rattle.std.specs.Prelude.{slice_index, Option, Some, None, if◌then◌else◌}
use Rattle.std.specs.List.{flat_map, range_with_len}
use Rattle.affinity_mask.specs.Number.{canonical_number}
use Rattle.task_set.specs.TaskSet.{SetData}
use Rattle.text_fields.specs.EventText.{name_of}
use Rattle.schedule_picture.specs.declared.span.Seen.{Seen}
use Rattle.schedule_picture.specs.declared.span.Seen.TheVariants.{Task, OffLine, Processor, Waiting}
use Rattle.schedule_picture.specs.declared.span.Span.{Span}
use Rattle.schedule_picture.specs.declared.window.Window.{Window}
use Rattle.schedule_picture.specs.Colours.{colour_of, waiting_colour}

-- how long a window is, and at least 1
abbrev pub span_of : Window → ℕ
span_of window = max (window.to - window.from) 1

-- the part of a span within the window, if it has a length
abbrev pub first_place : List ℕ → Window → Span → ℕ
first_place places window span = max (slice_index places span.from) window.from

abbrev pub last_place : List ℕ → Window → Span → ℕ
last_place places window span = min (slice_index places span.until) window.to

abbrev pub part_of : List ℕ → Window → Span → Option (ℕ × ℕ)
part_of places window span = if nat_lt (first_place places window span)
    (last_place places window span)
    then Some (first_place places window span, last_place places window span) else None

-- where a span begins and ends, if it has a length
abbrev pub extent_of : List ℕ → Span → Option (ℕ × ℕ)
extent_of places span = if nat_lt (slice_index places span.from) (slice_index places span.until)
    then Some (slice_index places span.from, slice_index places span.until) else None

-- the text of a part, if there is one
abbrev pub text_of_part : (ℕ → ℕ → List ℕ) → Option (ℕ × ℕ) → List ℕ
text_of_part text None = []
text_of_part text (Some part) = text part.0 part.1

-- ---- the lanes
-- a stay of a task on a processor
unfoldable pub stay_text : List ℕ → List ℕ → ℕ → ℕ → ℕ → List ℕ
stay_text colour name p begin end =
    codes "<rect x=\"" ++ canonical_number begin ++ codes "\" y=\"" ++ canonical_number (8 * p + 1)
    ++ codes "\" width=\"" ++ canonical_number (end - begin)
    ++ codes "\" height=\"6\" fill=\"" ++ colour ++ codes "\"><title>" ++ name ++ codes " on cpu "
    ++ canonical_number p ++ codes " from " ++ canonical_number begin ++ codes " to "
    ++ canonical_number end
    ++ codes "</title></rect>\n"

-- an absence of a processor
unfoldable pub absence_text : ℕ → ℕ → ℕ → List ℕ
absence_text p begin end =
    codes "<rect x=\"" ++ canonical_number begin ++ codes "\" y=\"" ++ canonical_number (8 * p + 1)
    ++ codes "\" width=\"" ++ canonical_number (end - begin)
    ++ codes "\" height=\"6\" fill=\"#ccc\"/>\n"

-- what is seen of a processor p from one place to another
abbrev pub lane_bar : SetData → ℕ → Seen → ℕ → ℕ → List ℕ
lane_bar set p (Task t) begin end = stay_text (colour_of t) (name_of set t) p begin end
lane_bar set p OffLine begin end = absence_text p begin end
lane_bar set p (Processor q) begin end = []
lane_bar set p Waiting begin end = []

unfoldable pub lane_rect : List ℕ → Window → SetData → ℕ → Span → List ℕ
lane_rect places window set p span =
    text_of_part (lane_bar set p span.what) (part_of places window span)

-- ---- the rows
-- a bar of the task that is listed in this row
unfoldable pub row_text : ℕ → List ℕ → ℕ → ℕ → List ℕ
row_text k colour begin end =
    codes "<rect x=\"" ++ canonical_number begin ++ codes "\" y=\"" ++ canonical_number (8 * k + 2)
    ++ codes "\" width=\"" ++ canonical_number (end - begin)
    ++ codes "\" height=\"4\" fill=\"" ++ colour ++ codes "\"/>\n"

-- what is seen of a task t from one place to another: it waits, in red, or is linked, in its colour
abbrev pub row_bar : ℕ → ℕ → Seen → ℕ → ℕ → List ℕ
row_bar k t (Processor p) begin end = row_text k (colour_of t) begin end
row_bar k t Waiting begin end = row_text k waiting_colour begin end
row_bar k t (Task u) begin end = []
row_bar k t OffLine begin end = []

unfoldable pub row_rect : List ℕ → Window → ℕ → ℕ → Span → List ℕ
row_rect places window k t span = text_of_part (row_bar k t span.what) (part_of places window span)

-- ---- the groups
-- a group begins with its place on the page and its view box: the window, and eight for each lane
-- or row
unfoldable pub group_head : ℕ → ℕ → ℕ → ℕ → ℕ → ℕ → List ℕ
group_head top wide high from span eighths =
    codes "<svg x=\"200\" y=\"" ++ canonical_number top ++ codes "\" width=\""
    ++ canonical_number wide ++ codes "\" height=\"" ++ canonical_number high
    ++ codes "\" viewBox=\"" ++ canonical_number from ++ codes " 0 " ++ canonical_number span
    ++ codes " " ++ canonical_number eighths ++ codes "\" preserveAspectRatio=\"none\">\n"

-- the rectangles of a processor: its absences, and then its stays
abbrev pub lane_text : List ℕ → Window → SetData → ℕ → List Span → List Span → List ℕ
lane_text places window set p absences stays = flat_map (lane_rect places window set p) absences
    ++ flat_map (lane_rect places window set p) stays

-- those of all lanes, by the processors
unfoldable pub lanes_text : List ℕ → Window → SetData → (ℕ → List Span) → (ℕ → List Span) → ℕ
    → List ℕ
lanes_text places window set absences stays count =
    flat_map (λ p. lane_text places window set p (absences p) (stays p)) (range_with_len 0 count)

-- the rectangles of the task that is listed in this row
abbrev pub listed_row : List ℕ → Window → (ℕ → List Span) → List ℕ → ℕ → List ℕ
listed_row places window rows listed k =
    flat_map (row_rect places window k (slice_index listed k)) (rows (slice_index listed k))

-- those of all rows, in their order
unfoldable pub rows_text : List ℕ → Window → (ℕ → List Span) → List ℕ → List ℕ
rows_text places window rows listed =
    flat_map (listed_row places window rows listed) (range_with_len 0 (length listed))
