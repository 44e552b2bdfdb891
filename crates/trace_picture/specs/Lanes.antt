-- The lanes of processors. A bar is a rectangle in the moments of the part, eight high for each
-- lane, with a title: the task, the processor, the moments, and the clock of the first one.
use Rattle.std.specs.Prelude.{ℕ, ◌+◌, ◌-◌, ◌*◌, ◌/◌, Bool, false, nat_le, nat_lt, List, []}
use Rattle.std.specs.Prelude.{◌++◌}
use Rattle.std.specs.Prelude.{length, codes, Option, Some, None, if◌then◌else◌}
use Rattle.std.specs.List.{flat_map}
use Rattle.affinity_mask.specs.Number.{canonical_number}
use Rattle.kernel_trace.specs.StampText.{stamp_text, clock_after}
use Rattle.trace_bars.specs.declared.mark.Bar.{Bar}
use Rattle.trace_bars.specs.declared.mark.Mark.{Mark}
use Rattle.trace_bars.specs.declared.mark.Mark.TheVariants.{Runs, Linked, Ran, Lost, Waits}
use Rattle.trace_picture.specs.Around.{group_head}
use Rattle.trace_picture.specs.Scene.{SceneData, across, colour_at, lane_of, name_at, span_of}

-- the processor that a bar of a lane is on
abbrev pub processor_of : Mark → Option ℕ
processor_of (Runs p) = Some p
processor_of (Linked p) = Some p
processor_of Ran = None
processor_of Lost = None
processor_of Waits = None

-- a bar is on a processor beyond so many
abbrev pub is_beyond_at : ℕ → Option ℕ → Bool
is_beyond_at processors None = false
is_beyond_at processors (Some p) = nat_le processors p

abbrev pub is_beyond : ℕ → Bar → Bool
is_beyond processors bar = is_beyond_at processors (processor_of bar.mark)

-- ---- bars
-- when a bar begins and ends, at the end of its title
unfoldable pub extent_text : SceneData → Bar → List ℕ
extent_text scene bar =
    codes " from " ++ canonical_number bar.from ++ codes " to " ++ canonical_number bar.to
    ++ codes " at " ++ stamp_text (clock_after scene.clock bar.from)
    ++ codes "</title></rect>\n"

-- the bar of a processor
unfoldable pub bar_text : SceneData → ℕ → Bar → List ℕ
bar_text scene p bar =
    codes "<rect class=\"c" ++ canonical_number (colour_at scene bar.thread)
    ++ codes "\" x=\"" ++ canonical_number (bar.from - scene.part.from)
    ++ codes "\" y=\"" ++ canonical_number (8 * lane_of scene p + 1)
    ++ codes "\" width=\"" ++ canonical_number (bar.to - bar.from)
    ++ codes "\" height=\"6\"><title>" ++ name_at scene bar.thread
    ++ codes " on cpu " ++ canonical_number p ++ extent_text scene bar

abbrev pub bar_text_at : SceneData → Option ℕ → Bar → List ℕ
bar_text_at scene None bar = []
bar_text_at scene (Some p) bar = bar_text scene p bar

unfoldable pub lane_bar : SceneData → Bar → List ℕ
lane_bar scene bar = bar_text_at scene (processor_of bar.mark) bar

-- ---- names
-- the name of a bar does not fit on the page, with seven for each byte and six more
abbrev pub is_narrow : SceneData → Bar → Bool
is_narrow scene bar = nat_lt (across scene.part bar.to)
    (across scene.part bar.from + 7 * length (name_at scene bar.thread) + 6)

-- the name of a bar in its middle
unfoldable pub middle_text : SceneData → ℕ → ℕ → Bar → List ℕ
middle_text scene top p bar =
    codes "<text x=\"" ++ canonical_number
    ((across scene.part bar.from + across scene.part bar.to) / 2)
    ++ codes "\" y=\"" ++ canonical_number (top + 24 * lane_of scene p + 16)
    ++ codes "\" text-anchor=\"middle\" pointer-events=\"none\">" ++ name_at scene bar.thread
    ++ codes "</text>\n"

-- the same, where it fits
unfoldable pub name_text : SceneData → ℕ → ℕ → Bar → List ℕ
name_text scene top p bar = if is_narrow scene bar then [] else middle_text scene top p bar

abbrev pub name_text_at : SceneData → ℕ → Option ℕ → Bar → List ℕ
name_text_at scene top None bar = []
name_text_at scene top (Some p) bar = name_text scene top p bar

unfoldable pub lane_name : SceneData → ℕ → Bar → List ℕ
lane_name scene top bar = name_text_at scene top (processor_of bar.mark) bar

-- ---- together
-- so many lanes, which begin here from above: a group of the bars, and then the names
unfoldable pub lanes_text : SceneData → ℕ → ℕ → List Bar → List ℕ
lanes_text scene top lanes bars =
    group_head (span_of scene.part) top (24 * lanes) (8 * lanes)
    ++ flat_map (lane_bar scene) bars ++ codes "</svg>\n" ++ flat_map (lane_name scene top) bars
