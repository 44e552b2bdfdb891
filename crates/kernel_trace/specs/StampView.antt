-- What contracts see of a stamp.
use Rattle.std.specs.Prelude.{ℕ, ◌+◌, ◌*◌}
use Rattle.affinity_mask.specs.Number.{number_value}
use Rattle.kernel_trace.specs.declared.stamp.Stamp.{Stamp}

-- its nanoseconds
abbrev pub time_of : Stamp → ℕ
time_of stamp = number_value stamp.seconds.now * 1000000000 + stamp.nanos
