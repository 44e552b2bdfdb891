use Rattle.std.proofs.Common.{◌≡◌, take}
use Rattle.std.specs.Prelude.{min}
use Rattle.affinity_mask.specs.Number.{number_value}
use Rattle.kernel_trace.proofs.key.number_of.Given as goal

abbrev pub invariant-loop-digit : goal.invariant-loop-digit
invariant-loop-digit l = l.number ≡ min (number_value (take l.digit-index l.digits)) l.most
