use Rattle.nested_masks.specs.NestedData.{mask_in}
use Rattle.nested_masks.specs.Scans.{IsScan, IsTightAround, LiesWithin}
use Rattle.nested_masks.proofs.counts.Counts.least_tight.Given as goal

abbrev pub invariant-loop-u : goal.invariant-loop-u
invariant-loop-u l = IsScan (IsTightAround l.self (mask_in l.self l.t)) (LiesWithin l.self) l.u l.found
