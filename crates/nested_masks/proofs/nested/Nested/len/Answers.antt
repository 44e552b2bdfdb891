use Rattle.nested_masks.proofs.BestByCounts.{best_by_counts, only_best_by_counts}
use Rattle.nested_masks.proofs.nested.Nested.len.Goals as goal

pub returns-clause-best : goal.returns-clause-best
returns-clause-best c = rw (← c.self.view_is) (best_by_counts _ c.self.invariant)

pub returns-clause-only : goal.returns-clause-only
returns-clause-only c = rw (← c.self.view_is) (only_best_by_counts _ c.self.invariant)
