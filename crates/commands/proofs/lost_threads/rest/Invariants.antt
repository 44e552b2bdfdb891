use Rattle.std.proofs.Common.{◌≡◌, ◌++◌, map, length, take, drop}
use Rattle.commands.specs.LostThreads.{rested}
use Rattle.commands.proofs.lost_threads.rest.Given as goal

abbrev pub invariant-loop-i : goal.invariant-loop-i
invariant-loop-i l =
    (l.rows.items ≡ map (rested l.fn.id) (take l.i l.fn.rows.items) ++ drop l.i l.fn.rows.items)
    × (length l.rows.items ≡ length l.fn.rows.items)
