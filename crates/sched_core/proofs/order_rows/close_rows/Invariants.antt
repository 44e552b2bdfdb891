use Rattle.sched_core.specs.CoreRows.{RowCloses}
use Rattle.sched_core.proofs.RowLoops.{RowsDone}
use Rattle.sched_core.proofs.order_rows.close_rows.Given as goal

abbrev pub invariant-loop-p : goal.invariant-loop-p
invariant-loop-p l = RowsDone (λ p. RowCloses) l.fn.rows.items l.p l.rows.items
