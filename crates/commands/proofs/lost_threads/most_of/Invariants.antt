use Rattle.std.proofs.Common.{◌-◌, List, ◌++◌}
use Rattle.kernel_trace.specs.declared.loss_text.ThreadRow.{ThreadRow}
use Rattle.commands.specs.LostThreads.{AreMost}
use Rattle.commands.proofs.lost_threads.most_of.Given as goal

abbrev pub invariant-loop-done : goal.invariant-loop-done
invariant-loop-done l =
    (rest : List ThreadRow) → AreMost (10 - l.done) l.left.items rest → AreMost 10 l.fn.rows.items (l.named.items ++ rest)
