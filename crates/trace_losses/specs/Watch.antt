-- Who ran in a stretch of moments without being in the best set.
use Rattle.std.specs.Prelude.{◌≡◌, ℕ, ◌+◌, ◌-◌, ◌^◌, ◌<◌, ◌≤◌, Bool, not, ◌&&◌, List, ◌++◌, length}
use Rattle.std.specs.Prelude.{replicate, map, take, drop, count_by, min, get_or, slice_get}
use Rattle.std.specs.Prelude.{slice_index, ◌⊎◌, Option, Some, None, vec_len}
use Rattle.trace_losses.specs.Book.{nothing_seen, of_task}
use Rattle.trace_losses.specs.Tally.{more}
use Rattle.trace_losses.specs.declared.seen.Seen.{Seen}
use Rattle.trace_losses.specs.declared.tally.Stretch.{Stretch}
use Rattle.trace_losses.specs.declared.tally.Tally.{Tally}
use Rattle.trace_losses.specs.declared.watch.StretchWatch.{StretchWatch}

-- the task runs and is not in the best set
abbrev pub is_rival : Seen → Bool
is_rival seen = seen.runs && not seen.best

-- the moments of the stretch among these
abbrev pub during : {A : Type 0} → Stretch → List A → List A
during stretch moments = take stretch.count (drop stretch.first moments)

-- each count is the number of moments of the stretch at which its task ran and was not in the best
-- set
abbrev pub IsWatch : Stretch → List (List Seen) → List ℕ → Type 0
IsWatch stretch moments counts =
    (t : ℕ) (count : ℕ) → slice_get counts t ≡ Some count
    → count ≡ count_by is_rival (of_task t (during stretch moments))

-- no count is greater than this
abbrev pub AreAtMost : ℕ → List ℕ → Type 0
AreAtMost most counts = (t : ℕ) (count : ℕ) → slice_get counts t ≡ Some count → count ≤ most

-- the watch is of these moments, and of so many tasks
pub record IsWatchOf (tasks : ℕ) (moments : List (List Seen)) (watch : StretchWatch) : Type 0 where
  pub counted : IsWatch watch.stretch moments watch.counts.items
  pub kept : AreAtMost watch.moments watch.counts.items
  pub all : watch.moments ≡ length moments
  pub width : vec_len watch.counts ≡ tasks

-- each of the watches is of these moments, and of so many tasks
abbrev pub AreWatches : ℕ → List (List Seen) → List StretchWatch → Type 0
AreWatches tasks moments watches = (t : ℕ) (watch : StretchWatch) → slice_get watches t ≡ Some watch
    → IsWatchOf tasks moments watch

-- the watch goes on by so many equal moments
pub record WatchPasses (units : ℕ) (seen : List Seen) (old new : StretchWatch) : Type 0 where
  pub stretch : new.stretch ≡ old.stretch
  pub goes_on : (tasks : ℕ) (moments : List (List Seen)) → IsWatchOf tasks moments old
      → IsWatchOf tasks (moments ++ replicate units seen) new

-- the watch can go on by so many equal moments
pub record CanPassOne (units : ℕ) (seen : List Seen) (watch : StretchWatch) : Type 0 where
  pub width : vec_len watch.counts ≤ length seen
  pub room : watch.moments + units < 2 ^ 64
  pub kept : AreAtMost watch.moments watch.counts.items

-- each of the watches can
abbrev pub CanPass : ℕ → List Seen → List StretchWatch → Type 0
CanPass units seen watches =
    (t : ℕ) (watch : StretchWatch) → slice_get watches t ≡ Some watch → CanPassOne units seen watch

-- each of the first so many watches went on by these moments, and the others are as they were
pub record WatchesPass (units : ℕ) (seen : List Seen) (old new : List StretchWatch)
    (done : ℕ) : Type 0 where
  pub same : length new ≡ length old
  pub passed : (t : ℕ) (watch : StretchWatch) → t < done → slice_get old t ≡ Some watch
      → (next : StretchWatch) × (slice_get new t ≡ Some next) × WatchPasses units seen watch next
  pub waiting : (t : ℕ) → done ≤ t → slice_get new t ≡ slice_get old t

-- the stretches of the watches
abbrev pub stretches_of : List StretchWatch → List Stretch
stretches_of watches = map (λ (watch : StretchWatch). watch.stretch) watches

-- the longest stretches of the tallies
abbrev pub longest_of : List Tally → List Stretch
longest_of tallies = map (λ (tally : Tally). tally.longest) tallies

-- how many of so many moments are in the stretch, where these were before them
abbrev pub overlap : Stretch → ℕ → ℕ → ℕ
overlap stretch moments units =
    min (stretch.count - (moments - stretch.first)) (units - (stretch.first - moments))

-- each of the first so many tasks that runs and is not in the best set has these moments more, and
-- the other counts are as they were
pub record AreMore (old new : List ℕ) (seen : List Seen) (units done : ℕ) : Type 0 where
  pub same : length new ≡ length old
  pub counted : (t : ℕ) (count : ℕ) → t < done → slice_get old t ≡ Some count
      → slice_get new t ≡ Some (more (is_rival (get_or seen t nothing_seen)) count units)
  pub waiting : (t : ℕ) → done ≤ t → slice_get new t ≡ slice_get old t

-- one task has fewer moments than another, or as many and no greater priority number
abbrev pub IsLesserTask : List ℕ → List ℕ → ℕ → ℕ → Type 0
IsLesserTask counts priorities t u =
    (slice_index counts t < slice_index counts u)
    ⊎ ((slice_index counts t ≡ slice_index counts u)
    × (slice_index priorities t ≤ slice_index priorities u))

-- of the first so many tasks this one has the most moments, and no other has more or as many and a
-- greater priority number
pub record IsGreatest (counts priorities : List ℕ) (done u : ℕ) : Type 0 where
  pub within : u < done
  pub some : 0 < slice_index counts u
  pub most : (t : ℕ) → t < done → IsLesserTask counts priorities t u

-- of the first so many tasks this one has the most moments; where there is none they have none
abbrev pub IsMostOf : List ℕ → List ℕ → ℕ → Option ℕ → Type 0
IsMostOf counts priorities done None = (t : ℕ) → t < done → slice_index counts t ≡ 0
IsMostOf counts priorities done (Some u) = IsGreatest counts priorities done u
