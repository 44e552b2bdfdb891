use Rattle.sched_core.specs.CoreRows.{RowRuns}
use Rattle.sched_core.proofs.RowLoops.{RowsDone}
use Rattle.sched_core.proofs.order_rows.run_rows.Given as goal

abbrev pub invariant-loop-p : goal.invariant-loop-p
invariant-loop-p l = RowsDone (λ p old new. RowRuns old l.units new) l.fn.rows.items l.p l.rows.items
