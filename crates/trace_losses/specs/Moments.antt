-- Moments. What holds of a task is said of each moment, one after another; of these it is counted
-- how many there are of a kind, which stretch of lost moments is the longest, and how many stand in
-- stretches over 50.
use Rattle.std.specs.Prelude.{◌≡◌, ℕ, ◌+◌, ◌-◌, ◌<◌, ◌≤◌, ◌⊎◌, zero, suc, Bool, true, false, not}
use Rattle.std.specs.Prelude.{◌&&◌, List, length, map, count_by, slice_get, Some}
use Rattle.trace_losses.specs.declared.seen.Seen.{Seen}
use Rattle.trace_losses.specs.declared.tally.Stretch.{Stretch}
use Rattle.trace_losses.specs.declared.tally.Tally.{Tally}

-- of so many moments from the first one on, so many are of a kind
abbrev pub IsCount : (ℕ → Type 0) → ℕ → ℕ → ℕ → Type 0
IsCount Is first zero count = count ≡ 0
IsCount Is first (suc moments) count =
    (Is first × ((rest : ℕ) × (count ≡ rest + 1) × IsCount Is (first + 1) moments rest))
    ⊎ ((Is first → ⊥) × IsCount Is (first + 1) moments count)

-- the task is ready
abbrev pub is_ready_then : Seen → Bool
is_ready_then seen = seen.ready

-- it is ready and runs
abbrev pub is_served : Seen → Bool
is_served seen = seen.ready && seen.runs

-- it is lost: in the best set, and it runs nowhere
abbrev pub is_lost : Seen → Bool
is_lost seen = seen.best && not seen.runs

-- of each moment, whether the task is lost
abbrev pub losses : List Seen → List Bool
losses moments = map is_lost moments

-- so many moments, from this first one on, are lost
abbrev pub IsLostFrom : List Bool → ℕ → ℕ → Type 0
IsLostFrom lost first count = (x : ℕ) → first ≤ x → x < first + count → slice_get lost x ≡ Some true

-- so many moments up to the last one are lost, and the one before them is not
pub record IsCurrent (lost : List Bool) (count : ℕ) : Type 0 where
  pub within : count ≤ length lost
  pub each : IsLostFrom lost (length lost - count) count
  pub before : (x : ℕ) → x + 1 + count ≡ length lost → slice_get lost x ≡ Some false

-- the moments of the stretch are lost, and any other lost moments that follow each other are fewer,
-- or as many and no earlier; where none is lost, it is that of no moment from the moment 0 on
pub record IsLongest (lost : List Bool) (stretch : Stretch) : Type 0 where
  pub each : IsLostFrom lost stretch.first stretch.count
  pub longest : (first count : ℕ) → 0 < count → IsLostFrom lost first count
      → (count < stretch.count) ⊎ ((count ≡ stretch.count) × (stretch.first ≤ first))
  pub none : stretch.count ≡ 0 → stretch.first ≡ 0

-- the moment x stands in a stretch of more than 50 lost moments that follow each other
pub record IsOver (lost : List Bool) (x : ℕ) : Type 0 where
  pub first : ℕ
  pub count : ℕ
  pub long : 50 < count
  pub each : IsLostFrom lost first count
  pub from : first ≤ x
  pub to : x < first + count

-- so many of the moments stand in such stretches
abbrev pub AreOver : List Bool → ℕ → Type 0
AreOver lost over = IsCount (IsOver lost) 0 (length lost) over

-- the numbers are those of these moments; those of the stretch up to the last one are not yet
-- counted among the ones over
pub record IsTally (moments : List Seen) (tally : Tally) : Type 0 where
  pub count : tally.moments ≡ length moments
  pub ready : tally.ready ≡ count_by is_ready_then moments
  pub served : tally.served ≡ count_by is_served moments
  pub lost : tally.lost ≡ count_by is_lost moments
  pub current : IsCurrent (losses moments) tally.current
  pub ended : IsCount (IsOver (losses moments)) 0 (length (losses moments) - tally.current)
      tally.ended
  pub longest : IsLongest (losses moments) tally.longest
