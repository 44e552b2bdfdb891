use Rattle.std.proofs.Common.{◌≡◌, replicate}
use Rattle.sched_core.specs.CoreRows.{empty_row}
use Rattle.sched_core.proofs.order_rows.empty_rows.Given as goal

abbrev pub invariant-loop-p : goal.invariant-loop-p
invariant-loop-p l = l.rows.items ≡ replicate l._p empty_row
