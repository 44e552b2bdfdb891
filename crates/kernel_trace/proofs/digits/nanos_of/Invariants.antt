use Rattle.std.proofs.Common.{◌≡◌, take}
use Rattle.affinity_mask.specs.Number.{number_value}
use Rattle.kernel_trace.specs.Stamp.{to_nine}
use Rattle.kernel_trace.proofs.digits.nanos_of.Given as goal

abbrev pub invariant-loop-place : goal.invariant-loop-place
invariant-loop-place l = l.nanos ≡ number_value (take l.place (to_nine l.digits))
