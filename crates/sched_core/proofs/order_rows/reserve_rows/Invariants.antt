use Rattle.sched_core.proofs.RowLoops.{RowsDone, GrewWithRoom}
use Rattle.sched_core.proofs.order_rows.reserve_rows.Given as goal

abbrev pub invariant-loop-p : goal.invariant-loop-p
invariant-loop-p l = RowsDone (GrewWithRoom l.room) l.fn.rows.items l.p l.rows.items
