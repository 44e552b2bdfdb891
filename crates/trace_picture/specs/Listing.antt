-- Which tasks have a row: all of at most 64; of more the first 64 of those that lost something.
use Rattle.std.specs.Prelude.{ℕ, ◌==◌, ◌||◌, Bool, false, nat_le, List, take, filter}
use Rattle.std.specs.List.{list_any, range_with_len}
use Rattle.trace_bars.specs.declared.mark.Bar.{Bar}
use Rattle.trace_bars.specs.declared.mark.Mark.{Mark}
use Rattle.trace_bars.specs.declared.mark.Mark.TheVariants.{Runs, Linked, Ran, Lost, Waits}

abbrev pub is_loss_by : Bool → Mark → Bool
is_loss_by same (Runs p) = false
is_loss_by same (Linked p) = false
is_loss_by same Ran = false
is_loss_by same Lost = same
is_loss_by same Waits = false

-- the task lost the moments of the bar
abbrev pub is_loss_of : ℕ → Bar → Bool
is_loss_of t bar = is_loss_by (bar.thread == t) bar.mark

-- of so many tasks this one has a row, where there is room
abbrev pub has_row : ℕ → List Bar → ℕ → Bool
has_row tasks bars t = nat_le tasks 64 || list_any (is_loss_of t) bars

-- those that have one, by the bars of the rows
abbrev pub listed_of : ℕ → List Bar → List ℕ
listed_of tasks bars = take 64 (filter (has_row tasks bars) (range_with_len 0 tasks))
