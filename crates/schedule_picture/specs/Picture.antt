-- A picture of a history: over units of time, or with a column for each entry. Of a window of it,
-- the group of the lanes has one rectangle for each stay and each absence whose part in the window
-- has a length, and the group of the rows one for each stay and each wait of each task that is
-- listed. What stands around the two groups is elements, none of them a rectangle with a title, and
-- is left open beyond that.
use Rattle.std.specs.Prelude.{◌≡◌, ℕ, true, [], ◌+◌, ◌*◌, ◌-◌, ◌<◌, ◌≤◌, min, max, List, ◌++◌}
use Rattle.std.specs.Prelude.{length, map, take, sum_by, codes, All, get_or, slice_index}
use Rattle.std.specs.List.{range_with_len}
use Rattle.task_set.specs.TaskSet.{SetData}
use Rattle.task_set.specs.declared.event.Event.{Event}
use Rattle.task_set.specs.declared.event.Event.TheVariants.{Tick}
use Rattle.strong_apa.specs.declared.reply.Entry.{Entry}
use Rattle.schedule_picture.specs.declared.axis.Axis.{Axis}
use Rattle.schedule_picture.specs.declared.axis.Axis.TheVariants.{Time, Steps}
use Rattle.schedule_picture.specs.declared.span.Span.{Span}
use Rattle.schedule_picture.specs.declared.window.Window.{Window}
use Rattle.schedule_picture.specs.declared.tracks.Tracks.{Tracks}
use Rattle.schedule_picture.specs.Track.{TrackData, fresh_track}
use Rattle.schedule_picture.specs.Spans.{AreSpans, lane_at, absence_at, row_at}
use Rattle.schedule_picture.specs.Elements.{Reader, Start, Ended, Inside, reads}
use Rattle.schedule_picture.specs.Elements.{IsWellFormedElement}
use Rattle.schedule_picture.specs.Group.{span_of, group_head, lanes_text, rows_text}
use Rattle.schedule_picture.specs.Listing.{IsListing}

-- ---- the axis
-- the units of an event
abbrev pub units_of : Event → ℕ
units_of (Tick units) = units
units_of _ = 0

-- the units of time of the first n entries
abbrev pub moment : List Entry → ℕ → ℕ
moment entries n = sum_by (λ (entry : Entry). units_of entry.event) (take n entries)

-- the place of the state after each number of entries, and, after one more than there are, the end
-- of the last one: the units of time before it, or the columns
abbrev pub columns_of : ℕ → List ℕ
columns_of count = map (λ n. n - 1) (range_with_len 0 (count + 2))

abbrev pub moments_of : List Entry → List ℕ
moments_of entries = map (moment entries) (range_with_len 0 (length entries + 2))

-- the same moments by a clock that is at `start` when the history begins
abbrev pub clock_of : ℕ → List Entry → List ℕ
clock_of start entries = map (λ n. start + moment entries n) (range_with_len 0 (length entries + 2))

abbrev pub clock_moments : Axis → List Entry → List ℕ
clock_moments Time entries = moments_of entries
clock_moments Steps entries = columns_of (length entries)

abbrev pub end_of : Axis → List Entry → ℕ
end_of axis entries = slice_index (clock_moments axis entries) (length entries + 1)

-- the window, which has no more than there is
abbrev pub cut_window : Window → ℕ → Window
cut_window window end = record { from = min window.from end; to = min window.to end }

-- ---- the picture
abbrev pub close : List ℕ
close = codes "</svg>\n"

-- the spans of the processors and of the tasks, each that there is, once, in order
pub record HasSpansOf (set : SetData) (entries : List Entry) (lanes absences rows : ℕ
    → List Span) : Type 0 where
  pub of_lanes : (p : ℕ) → p < set.processors
      → AreSpans (lane_at set entries p) (length entries) (lanes p)
  pub of_absences : (p : ℕ) → p < set.processors
      → AreSpans (absence_at set entries p) (length entries) (absences p)
  pub of_rows : (t : ℕ) → t < length set.tasks
      → AreSpans (row_at set entries t) (length entries) (rows t)

-- the group of the lanes
abbrev pub lanes_group : List ℕ → SetData → Window → (ℕ → List Span) → (ℕ → List Span) → ℕ → ℕ
    → List ℕ
lanes_group places set window absences lanes top wide =
    group_head top wide (24 * set.processors) window.from (span_of window) (8 * set.processors)
    ++ lanes_text places window set absences lanes set.processors ++ close

-- the group of the rows
abbrev pub rows_group : List ℕ → Window → (ℕ → List Span) → List ℕ → ℕ → ℕ → List ℕ
rows_group places window rows listed top wide =
    group_head top wide (16 * length listed) window.from (span_of window)
    (max (8 * length listed) 1)
    ++ rows_text places window rows listed ++ close

-- in the outermost element
abbrev pub in_svg : Reader
in_svg = Inside (codes "svg") []

-- the text has the two groups, of these spans; what stands around them has no `rect` with a title,
-- and is left open beyond that
pub record HasGroups (places : List ℕ) (set : SetData) (window : Window) (absences lanes rows : ℕ
    → List Span) (listed text : List ℕ) : Type 0 where
  pub top : ℕ
  pub rows_top : ℕ
  pub wide : ℕ
  pub some_width : 1 ≤ wide
  pub before : List ℕ
  pub between : List ℕ
  pub after : List ℕ
  pub untitled_before : reads true Start before ≡ in_svg
  pub untitled_between : reads true in_svg between ≡ in_svg
  pub untitled_after : reads true in_svg after ≡ Ended
  pub is_text : text ≡ before ++ lanes_group places set window absences lanes top wide ++ between
      ++ rows_group places window rows listed rows_top wide ++ after

-- the text is a picture of this window of a history
pub record IsPicture (axis : Axis) (set : SetData) (entries : List Entry) (window : Window)
    (text : List ℕ) : Type 0 where
  pub well_formed : IsWellFormedElement text
  pub lanes : ℕ → List Span
  pub absences : ℕ → List Span
  pub rows : ℕ → List Span
  pub spans : HasSpansOf set entries lanes absences rows
  pub listed : List ℕ
  pub are_tasks : All (λ t. t < length set.tasks) listed
  pub few : length listed ≤ 64
  pub listing : IsListing (clock_moments axis entries) (cut_window window (end_of axis entries))
      set rows listed
  pub groups : HasGroups (clock_moments axis entries) set (cut_window window (end_of axis entries))
      absences lanes rows listed text

-- the same, of tracks. Private: contracts of this crate's own functions
abbrev pub spans_in : List TrackData → ℕ → List Span
spans_in tracks x = (get_or tracks x fresh_track).spans

abbrev pub HasGroupsOf : List ℕ → SetData → Window → Tracks → List ℕ → List ℕ → Type 0
HasGroupsOf places set window tracks listed text = HasGroups places set window
    (spans_in tracks.absences.items) (spans_in tracks.lanes.items) (spans_in tracks.rows.items)
    listed text
