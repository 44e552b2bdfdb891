use Rattle.nested_masks.specs.Scans.{IsScan, IsHeldIn, IsNoMoreUrgent}
use Rattle.nested_masks.proofs.counts.Counts.least_urgent.Given as goal

abbrev pub invariant-loop-u : goal.invariant-loop-u
invariant-loop-u l = IsScan (IsHeldIn l.self l.node) (IsNoMoreUrgent l.self) l.u l.found
