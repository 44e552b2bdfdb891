use Rattle.std.proofs.Common.{◌≡◌, ◌++◌}
use Rattle.schedule_text.proofs.Written.{links_text}
use Rattle.schedule_text.proofs.write.write_chain.Given as goal

abbrev pub invariant-loop-i : goal.invariant-loop-i
invariant-loop-i l = l.text.items ≡ l.fn.text.items ++ links_text l.chain l.i
