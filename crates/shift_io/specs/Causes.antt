-- A count of faults never falls, and a call that failed has raised it.
use Rattle.std.specs.Prelude.{◌≡◌, ℕ, ◌+◌, ◌-◌, ◌^◌, ◌<◌, ◌≤◌, ◌⊎◌, min, Result, OnErr}

-- the last value of a counter of 64 bits, at which it stands still
abbrev pub last_count : ℕ
last_count = 2 ^ 64 - 1

-- a count after one event more: the next number, or the last one again
abbrev pub count_after : ℕ → ℕ
count_after count = min (count + 1) last_count

-- a count of faults rose: it is greater now, or stood at a counter's last value before
abbrev pub Rose : ℕ → ℕ → Type 0
Rose before now = (before < now) ⊎ (before ≡ last_count)

-- a call's count of faults never falls, and rose where the call failed
pub record HasCause {T E : Type 0} (before now : ℕ) (result : Result T E) : Type 0 where
  pub later : before ≤ now
  pub failed : OnErr result (Rose before now)
