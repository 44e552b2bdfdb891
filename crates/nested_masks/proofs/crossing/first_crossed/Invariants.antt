use Rattle.std.proofs.Common.{◌<◌, ℕ}
use Rattle.nested_masks.specs.Laminar.{Cross}
use Rattle.nested_masks.proofs.crossing.first_crossed.Given as goal

abbrev pub invariant-loop-other : goal.invariant-loop-other
invariant-loop-other l = (u : ℕ) → l.one < u → u < l.other → Cross l.masks l.one u → ⊥
