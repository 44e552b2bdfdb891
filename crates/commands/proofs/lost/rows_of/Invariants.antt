use Rattle.std.proofs.Common.{◌≡◌, take}
use Rattle.commands.specs.Lost.{told_rows}
use Rattle.commands.proofs.lost.rows_of.Given as goal

abbrev pub invariant-loop-t : goal.invariant-loop-t
invariant-loop-t l = l.rows.items ≡ told_rows l.trace.mentioned 0 (take l.t l.losses)
