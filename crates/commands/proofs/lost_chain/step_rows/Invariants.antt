use Rattle.std.proofs.Common.{◌≡◌, take}
use Rattle.std.specs.Prelude.{map}
use Rattle.commands.specs.LostChain.{step_row}
use Rattle.commands.proofs.lost_chain.step_rows.Given as goal

abbrev pub invariant-loop-i : goal.invariant-loop-i
invariant-loop-i l = l.rows.items ≡ map step_row (take l.i l.chain)
