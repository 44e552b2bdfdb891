-- Who ran at moments at which a task was lost.
use Rattle.std.specs.Prelude.{◌≡◌, ℕ, Bool, List, count_by, filter, slice_get, Some}
use Rattle.std.specs.List.{list_any}
use Rattle.trace_losses.specs.Book.{of_task}
use Rattle.trace_losses.specs.Moments.{is_lost}
use Rattle.trace_losses.specs.Watch.{is_rival}
use Rattle.trace_losses.specs.declared.seen.Seen.{Seen}

-- some task is lost at the moment
abbrev pub is_loss : List Seen → Bool
is_loss seen = list_any is_lost seen

-- each count is the number of moments at which some task is lost and the thread runs without being
-- in the best set
abbrev pub IsBeside : List (List Seen) → List ℕ → Type 0
IsBeside moments counts =
    (t : ℕ) (count : ℕ) → slice_get counts t ≡ Some count
    → count ≡ count_by is_rival (of_task t (filter is_loss moments))
