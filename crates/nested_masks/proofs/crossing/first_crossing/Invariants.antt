use Rattle.std.proofs.Common.{◌<◌, ℕ}
use Rattle.nested_masks.specs.Scans.{CrossesNone}
use Rattle.nested_masks.proofs.crossing.first_crossing.Given as goal

abbrev pub invariant-loop-one : goal.invariant-loop-one
invariant-loop-one l = (t : ℕ) → t < l.one → CrossesNone l.masks t
