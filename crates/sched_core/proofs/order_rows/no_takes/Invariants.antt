use Rattle.std.proofs.Common.{◌≡◌, replicate}
use Rattle.sched_core.proofs.order_rows.no_takes.Given as goal

abbrev pub invariant-loop-t : goal.invariant-loop-t
invariant-loop-t l = l.takes.items ≡ replicate l._t 0
