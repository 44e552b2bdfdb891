use Rattle.std.proofs.Common.{take}
use Rattle.sched_core.specs.CoreRows.{RowsChange}
use Rattle.sched_core.proofs.order_rows.follow_chain.Given as goal

abbrev pub invariant-loop-p : goal.invariant-loop-p
invariant-loop-p l = RowsChange (take l.p-index l.chain) l.links l.fn.rows.items l.fn.takes.items l.rows.items l.takes.items
