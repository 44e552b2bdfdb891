-- A step of a tally. Private: the contracts of this crate's own functions.
use Rattle.std.specs.Prelude.{ℕ, ◌+◌, ◌-◌, ◌≤◌, Bool, nat_lt, if◌then◌else◌}
use Rattle.trace_losses.specs.declared.seen.Seen.{Seen}
use Rattle.trace_losses.specs.declared.tally.Stretch.{Stretch}
use Rattle.trace_losses.specs.declared.tally.Tally.{Tally}
use Rattle.trace_losses.specs.Moments.{is_ready_then, is_served, is_lost}

-- no number is greater than that of the moments
pub record IsWithin (tally : Tally) : Type 0 where
  pub ready : tally.ready ≤ tally.moments
  pub served : tally.served ≤ tally.moments
  pub lost : tally.lost ≤ tally.moments
  pub current : tally.current ≤ tally.moments
  pub ended : tally.ended + tally.current ≤ tally.moments

-- the longer stretch, or the first one where they are as long
abbrev pub longer : Stretch → Stretch → Stretch
longer one other = if nat_lt one.count other.count then other else one

-- so many moments more, where they count
abbrev pub more : Bool → ℕ → ℕ → ℕ
more counts count units = count + (if counts then units else 0)

-- the stretch up to the last moment
abbrev pub current_after : Bool → ℕ → ℕ → ℕ
current_after counts count units = if counts then count + units else 0

-- how many moments of a stretch of so many are over: all of more than 50, or none
abbrev pub over : ℕ → ℕ
over count = if nat_lt 50 count then count else 0

-- how many moments over there are up to the last moment that is not lost
abbrev pub ended_after : Bool → ℕ → ℕ → ℕ
ended_after counts ended current = if counts then ended else ended + over current

-- the tally after so many moments more
abbrev pub tally_after : Tally → ℕ → Seen → Tally
tally_after tally units seen =
    let current = current_after (is_lost seen) tally.current units in
    record {
      moments = tally.moments + units;
      ready = more (is_ready_then seen) tally.ready units;
      served = more (is_served seen) tally.served units;
      lost = more (is_lost seen) tally.lost units;
      current = current;
      ended = ended_after (is_lost seen) tally.ended tally.current;
      longest = longer tally.longest
          (record { first = tally.moments + units - current; count = current });
    }
