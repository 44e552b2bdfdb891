use Rattle.std.proofs.Common.{take}
use Rattle.commands.proofs.LostThreads.{IsFound}
use Rattle.commands.proofs.lost_threads.most.Given as goal

abbrev pub invariant-loop-i : goal.invariant-loop-i
invariant-loop-i l = IsFound (take l.i l.rows) l.found
