use Rattle.std.proofs.Common.{◌≡◌, ◌≤◌, ◌-◌, take}
use Rattle.std.specs.Prelude.{min}
use Rattle.affinity_mask.specs.Number.{number_value}
use Rattle.kernel_trace.specs.Reading.{in_places}
use Rattle.kernel_trace.proofs.digits.seconds_between.Given as goal

abbrev pub invariant-loop-place : goal.invariant-loop-place
invariant-loop-place l =
    let from = number_value (take l.place (in_places l.places l.earlier)) in
    let to = number_value (take l.place (in_places l.places l.later)) in
    (from ≤ to) × (l.ahead ≡ min (to - from) l.most)
