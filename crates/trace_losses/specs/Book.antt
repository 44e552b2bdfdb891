-- The tallies of all tasks.
use Rattle.std.specs.Prelude.{◌≡◌, ℕ, ◌+◌, ◌<◌, ◌≤◌, ◌^◌, false, List, length, map, get_or}
use Rattle.std.specs.Prelude.{slice_get, Some}
use Rattle.trace_losses.specs.Moments.{IsTally}
use Rattle.trace_losses.specs.Tally.{IsWithin, tally_after}
use Rattle.trace_losses.specs.declared.seen.Seen.{Seen}
use Rattle.trace_losses.specs.declared.tally.Tally.{Tally}

-- nothing holds of a task that there is not
abbrev pub nothing_seen : Seen
nothing_seen = record { ready = false; best = false; runs = false }

-- what holds of a task at each moment; of a moment it is said of each task
abbrev pub of_task : ℕ → List (List Seen) → List Seen
of_task t moments = map (λ (seen : List Seen). get_or seen t nothing_seen) moments

-- each tally is that of its task at these moments
abbrev pub IsBook : List (List Seen) → List Tally → Type 0
IsBook moments tallies =
    (t : ℕ) (tally : Tally) → slice_get tallies t ≡ Some tally → IsTally (of_task t moments) tally

-- each tally is of so many moments, and no number of it is greater
abbrev pub AreKept : ℕ → List Tally → Type 0
AreKept moments tallies = (t : ℕ) (tally : Tally) → slice_get tallies t ≡ Some tally
    → IsWithin tally × (tally.moments ≡ moments)

-- no number of a tally is greater than that of its moments
abbrev pub AreWithin : List Tally → Type 0
AreWithin tallies = (t : ℕ) (tally : Tally) → slice_get tallies t ≡ Some tally → IsWithin tally

-- each tally has room for so many moments more
abbrev pub AreReady : List Tally → ℕ → Type 0
AreReady tallies units = (t : ℕ) (tally : Tally) → slice_get tallies t ≡ Some tally
    → IsWithin tally × (tally.moments + units < 2 ^ 64)

-- each of the first so many tallies went on by these moments, and the others are as they were
pub record IsPassed (old new : List Tally) (seen : List Seen) (units done : ℕ) : Type 0 where
  pub same : length new ≡ length old
  pub passed : (t : ℕ) (tally : Tally) → t < done → slice_get old t ≡ Some tally
      → slice_get new t ≡ Some (tally_after tally units (get_or seen t nothing_seen))
  pub waiting : (t : ℕ) → done ≤ t → slice_get new t ≡ slice_get old t
