-- The picture of bars: the lanes of the trace, those of strong scheduling, and the rows, each a
-- group whose view box has the moments of the part, so that nothing is rounded, and what stands
-- around them.
use Rattle.std.specs.Prelude.{◌≡◌, ℕ, ◌+◌, ◌*◌, ◌≤◌, List, ◌++◌, length, codes, if◌then◌else◌}
use Rattle.std.specs.List.{flat_map, list_any}
use Rattle.trace_bars.specs.declared.bars.Bars.{Bars}
use Rattle.trace_bars.specs.declared.mark.Bar.{Bar}
use Rattle.trace_picture.specs.Around.{around_text, group_head, legend_text}
use Rattle.trace_picture.specs.Lanes.{is_beyond, lanes_text}
use Rattle.trace_picture.specs.Listing.{listed_of}
use Rattle.trace_picture.specs.Page.{rows_top, strong_top}
use Rattle.trace_picture.specs.Rows.{row_bar}
use Rattle.trace_picture.specs.Scene.{SceneData, span_of}
use Rattle.trace_picture.specs.declared.page.Page.{Page}

-- how many lanes of the trace there are: one for each processor, and one more where a bar is on a
-- processor beyond these
abbrev pub lanes_of : ℕ → List Bar → ℕ
lanes_of processors bars =
    if list_any (is_beyond processors) bars then processors + 1 else processors

-- a group of the rows
unfoldable pub rows_group : SceneData → Page → List ℕ → List Bar → List ℕ
rows_group scene page listed bars =
    group_head (span_of scene.part) (rows_top page) (16 * page.rows) (8 * page.rows)
    ++ flat_map (row_bar scene listed) bars ++ codes "</svg>\n"

-- the page for these bars and rows
abbrev pub page_for : ℕ → Bars → List ℕ → Page
page_for processors bars listed = record {
  processors = processors;
  lanes = lanes_of processors bars.trace.items;
  rows = length listed;
}

-- the whole on a page, for an axis with lines at the multiples of a step
unfoldable pub drawn_text : SceneData → Page → List ℕ → ℕ → Bars → List ℕ
drawn_text scene page listed step bars =
    around_text scene page listed step ++ lanes_text scene 56 page.lanes bars.trace.items
    ++ lanes_text scene (strong_top page) page.processors bars.strong.items
    ++ rows_group scene page listed bars.rows.items ++ legend_text page ++ codes "</svg>\n"

-- the tasks that have a row
abbrev pub listed_in : SceneData → Bars → List ℕ
listed_in scene bars = listed_of (length scene.set.tasks) bars.rows.items

-- the same with the rows of these tasks
abbrev pub text_for : SceneData → List ℕ → ℕ → Bars → List ℕ
text_for scene listed step bars =
    drawn_text scene (page_for scene.set.processors bars listed) listed step bars

-- the text is the picture of these bars, with some step of the axis
pub record IsPicture (scene : SceneData) (bars : Bars) (text : List ℕ) : Type 0 where
  pub step : ℕ
  pub some : 1 ≤ step
  pub is : text ≡ text_for scene (listed_in scene bars) step bars
