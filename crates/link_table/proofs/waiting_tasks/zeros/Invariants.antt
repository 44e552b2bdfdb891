use Rattle.std.proofs.Common.{◌≡◌, length}
use Rattle.link_table.proofs.waiting_tasks.zeros.Given as goal

abbrev pub invariant-loop-i : goal.invariant-loop-i
invariant-loop-i l = length l.zeros.items ≡ l._i
