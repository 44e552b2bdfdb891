-- What stands around the bars: the title, the axis, the names and the legend.
use Rattle.std.specs.Prelude.{ℕ, ◌+◌, ◌-◌, ◌*◌, ◌/◌, ◌%◌, ◌&&◌, nat_le, List, [], ◌∷◌, ◌++◌, length}
use Rattle.std.specs.Prelude.{codes, Option, if◌then◌else◌}
use Rattle.std.specs.List.{flat_map, range_with_len}
use Rattle.affinity_mask.specs.Number.{canonical_number}
use Rattle.kernel_trace.specs.StampText.{stamp_text, clock_after}
use Rattle.trace_picture.specs.Page.{bottom, rows_top, strong_top}
use Rattle.trace_picture.specs.Scene.{SceneData, across, name_at}
use Rattle.trace_picture.specs.declared.page.Page.{Page}

-- the colours of tasks by their numbers modulo 24, of lost spans, and of waits
unfoldable pub style_text : List ℕ
style_text =
    codes ".c0{fill:#a6cee3}.c1{fill:#fdbf6f}.c2{fill:#b2df8a}.c3{fill:#a5ebe3}"
    ++ codes ".c4{fill:#cab2d6}.c5{fill:#ffff99}.c6{fill:#8dd3c7}.c7{fill:#f4cae4}"
    ++ codes ".c8{fill:#d9c3a5}.c9{fill:#9ec9ff}.c10{fill:#c7e89c}.c11{fill:#ffc9a3}"
    ++ codes ".c12{fill:#7fc8d9}.c13{fill:#e8d174}.c14{fill:#8fd19e}.c15{fill:#94a8d8}"
    ++ codes ".c16{fill:#b59ad0}.c17{fill:#e3e36b}.c18{fill:#66c2a5}.c19{fill:#e5a0c8}"
    ++ codes ".c20{fill:#bfa27c}.c21{fill:#77a8e6}.c22{fill:#a3cf62}.c23{fill:#ffab73}"
    ++ codes ".c24{fill:#bbb}.lost{fill:#d9534f}.waited{fill:#ddd}"

-- ---- the beginning of the page
unfoldable pub opening_text : Page → List ℕ
opening_text page =
    codes "<svg xmlns=\"http://www.w3.org/2000/svg\" width=\"1240\" height=\""
    ++ canonical_number (bottom page + 64)
    ++ codes "\" viewBox=\"0 0 1240 " ++ canonical_number (bottom page + 64)
    ++ codes "\" font-family=\"DejaVu Sans,Arial,sans-serif\" font-size=\"11\">\n"
    ++ codes "<rect width=\"1240\" height=\""
    ++ canonical_number (bottom page + 64)
    ++ codes "\" fill=\"#fff\"/>\n<style>" ++ style_text ++ codes "</style>\n"

-- how many processors and tasks there are, and which moments are shown, with the clock of the first
unfoldable pub title_text : SceneData → List ℕ
title_text scene =
    codes "<text x=\"8\" y=\"16\" font-weight=\"bold\">" ++ canonical_number scene.set.processors
    ++ codes " processors, " ++ canonical_number (length scene.set.tasks)
    ++ codes " tasks, from " ++ canonical_number scene.part.from
    ++ codes " to " ++ canonical_number scene.part.to
    ++ codes " us, at " ++ stamp_text (clock_after scene.clock scene.part.from)
    ++ codes "</text>\n"

unfoldable pub headings_text : Page → List ℕ
headings_text page =
    codes "<text x=\"8\" y=\"48\" fill=\"#666\">in the trace</text>\n<text x=\"8\" y=\""
    ++ canonical_number (strong_top page - 8)
    ++ codes "\" fill=\"#666\">under strong scheduling</text>\n<text x=\"8\" y=\""
    ++ canonical_number (rows_top page - 8) ++ codes "\" fill=\"#666\">tasks</text>\n"

-- ---- the axis
-- a line at this place from the left
unfoldable pub tick_line : ℕ → ℕ → List ℕ
tick_line low x =
    codes "<path d=\"M" ++ canonical_number x ++ codes ",52 V" ++ canonical_number low
    ++ codes "\" stroke=\"#ddd\"/>"

-- below it the milliseconds of a moment
unfoldable pub tick_label : ℕ → ℕ → ℕ → List ℕ
tick_label low x moment =
    codes "<text x=\"" ++ canonical_number x ++ codes "\" y=\"" ++ canonical_number (low + 14)
    ++ codes "\" text-anchor=\"middle\">" ++ canonical_number (moment / 1000)
    ++ codes "." ++ canonical_number (moment / 100 % 10) ++ canonical_number (moment / 10 % 10)
    ++ canonical_number (moment % 10) ++ codes "</text>"

-- and below these the clock
unfoldable pub tick_stamp : Option ℕ → ℕ → ℕ → ℕ → List ℕ
tick_stamp clock low x moment =
    codes "<text x=\"" ++ canonical_number x ++ codes "\" y=\"" ++ canonical_number (low + 27)
    ++ codes "\" text-anchor=\"middle\" font-size=\"9\" fill=\"#666\">"
    ++ stamp_text (clock_after clock moment) ++ codes "</text>\n"

-- the three of a moment
unfoldable pub tick_text : SceneData → ℕ → ℕ → List ℕ
tick_text scene low moment =
    tick_line low (across scene.part moment) ++ tick_label low (across scene.part moment) moment
    ++ tick_stamp scene.clock low (across scene.part moment) moment

-- the i-th multiple of the step from the last one on that is not after the beginning of the part
abbrev pub tick_moment : SceneData → ℕ → ℕ → ℕ
tick_moment scene step i = (scene.part.from - scene.part.from % step) + i * step

-- its line, where it is in the part
unfoldable pub tick_at : SceneData → ℕ → ℕ → ℕ → List ℕ
tick_at scene low step i =
    if nat_le scene.part.from (tick_moment scene step i)
    && nat_le (tick_moment scene step i) scene.part.to
    then tick_text scene low (tick_moment scene step i) else []

-- the lines of the first multiples in the part, and what the numbers below them are
unfoldable pub axis_text : SceneData → Page → ℕ → List ℕ
axis_text scene page step =
    flat_map (tick_at scene (bottom page) step) (range_with_len 0 14)
    ++ codes "<text x=\"8\" y=\"" ++ canonical_number (bottom page + 14)
    ++ codes "\" fill=\"#666\">ms</text>\n<text x=\"8\" y=\"" ++ canonical_number (bottom page + 27)
    ++ codes "\" fill=\"#666\">clock</text>\n"

-- ---- names
-- the name of a processor, and a line below its lane
unfoldable pub label_text : ℕ → ℕ → List ℕ
label_text top p =
    codes "<text x=\"192\" y=\"" ++ canonical_number (top + 24 * p + 16)
    ++ codes "\" text-anchor=\"end\">cpu " ++ canonical_number p
    ++ codes "</text><path d=\"M200," ++ canonical_number (top + 24 * p + 24)
    ++ codes " h1000\" stroke=\"#ccc\"/>\n"

unfoldable pub labels_text : ℕ → ℕ → List ℕ
labels_text top count = flat_map (label_text top) (range_with_len 0 count)

-- the same of the lane for all processors beyond
unfoldable pub other_text : ℕ → List ℕ
other_text lane =
    codes "<text x=\"192\" y=\"" ++ canonical_number (56 + 24 * lane + 16)
    ++ codes "\" text-anchor=\"end\">other cpus</text><path d=\"M200,"
    ++ canonical_number (56 + 24 * lane + 24)
    ++ codes " h1000\" stroke=\"#ccc\"/>\n"

unfoldable pub beyond_text : Page → List ℕ
beyond_text page = if nat_le page.lanes page.processors then [] else other_text page.processors

-- the colour and the name of a task, and a line below its row
unfoldable pub task_text : SceneData → ℕ → ℕ → ℕ → List ℕ
task_text scene top k task =
    codes "<rect class=\"c" ++ canonical_number (task % 24)
    ++ codes "\" x=\"4\" y=\"" ++ canonical_number (top + 16 * k + 3)
    ++ codes "\" width=\"10\" height=\"10\"/><text x=\"20\" y=\""
    ++ canonical_number (top + 16 * k + 12)
    ++ codes "\">" ++ name_at scene task
    ++ codes "</text><path d=\"M200," ++ canonical_number (top + 16 * k + 16)
    ++ codes " h1000\" stroke=\"#eee\"/>\n"

-- those of tasks that are listed, from this row on
abbrev pub tasks_text : SceneData → ℕ → ℕ → List ℕ → List ℕ
tasks_text scene top k [] = []
tasks_text scene top k (task ∷ rest) =
    task_text scene top k task ++ tasks_text scene top (k + 1) rest

-- a group begins with its place on the page and its view box: the part, and eight for each lane or
-- row
unfoldable pub group_head : ℕ → ℕ → ℕ → ℕ → List ℕ
group_head span top high eighths =
    codes "<svg x=\"200\" y=\"" ++ canonical_number top
    ++ codes "\" width=\"1000\" height=\"" ++ canonical_number high
    ++ codes "\" viewBox=\"0 0 " ++ canonical_number span ++ codes " " ++ canonical_number eighths
    ++ codes "\" preserveAspectRatio=\"none\">\n"

-- ---- together
-- all that stands before the bars
unfoldable pub around_text : SceneData → Page → List ℕ → ℕ → List ℕ
around_text scene page listed step =
    opening_text page ++ title_text scene ++ headings_text page ++ axis_text scene page step
    ++ labels_text 56 page.processors ++ beyond_text page
    ++ labels_text (strong_top page) page.processors
    ++ tasks_text scene (rows_top page) 0 listed

-- ---- the legend
-- the colours of tasks, of which three stand for all
unfoldable pub legend_of_tasks : ℕ → List ℕ
legend_of_tasks low =
    codes "<rect class=\"c0\" x=\"200\" y=\"" ++ canonical_number (low + 41)
    ++ codes "\" width=\"8\" height=\"9\"/><rect class=\"c1\" x=\"208\" y=\""
    ++ canonical_number (low + 41)
    ++ codes "\" width=\"8\" height=\"9\"/><rect class=\"c2\" x=\"216\" y=\""
    ++ canonical_number (low + 41)
    ++ codes "\" width=\"8\" height=\"9\"/><text x=\"228\" y=\"" ++ canonical_number (low + 50)
    ++ codes "\" fill=\"#666\">ran</text>"

-- the colour of a class, and what it means
unfoldable pub meaning_text : ℕ → ℕ → List ℕ → List ℕ
meaning_text low x meaning =
    codes "<text x=\"" ++ canonical_number x ++ codes "\" y=\"" ++ canonical_number (low + 50)
    ++ codes "\" fill=\"#666\">" ++ meaning ++ codes "</text>"

unfoldable pub legend_of : ℕ → ℕ → List ℕ → List ℕ → List ℕ
legend_of low x class meaning =
    codes "<rect class=\"" ++ class ++ codes "\" x=\"" ++ canonical_number x
    ++ codes "\" y=\"" ++ canonical_number (low + 41)
    ++ codes "\" width=\"24\" height=\"9\"/>" ++ meaning_text low (x + 28) meaning

unfoldable pub legend_of_white : ℕ → List ℕ
legend_of_white low =
    codes "<text x=\"770\" y=\"" ++ canonical_number (low + 50)
    ++ codes "\" fill=\"#666\">grey in a lane: not listed; white: idle, or not of real time</text>\n"

unfoldable pub legend_text : Page → List ℕ
legend_text page =
    legend_of_tasks (bottom page)
    ++ legend_of (bottom page) 262 (codes "lost") (codes "lost: in the best set, and ran nowhere")
    ++ legend_of (bottom page) 522 (codes "waited") (codes "waited, as under strong scheduling")
    ++ legend_of_white (bottom page)
