use Rattle.nested_masks.specs.LaminarStep.{MayEnter}
use Rattle.nested_masks.specs.Scans.{IsScan, IsNoLessUrgent}
use Rattle.nested_masks.proofs.counts.Counts.most_urgent_free.Given as goal

abbrev pub invariant-loop-w : goal.invariant-loop-w
invariant-loop-w l = IsScan (MayEnter l.self) (IsNoLessUrgent l.self) l.w l.found
