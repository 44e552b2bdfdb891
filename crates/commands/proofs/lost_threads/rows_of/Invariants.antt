use Rattle.std.proofs.Common.{◌≡◌, length, take, drop}
use Rattle.commands.specs.LostThreads.{thread_rows}
use Rattle.commands.proofs.lost_threads.rows_of.Given as goal

abbrev pub invariant-loop-place : goal.invariant-loop-place
invariant-loop-place l =
    (l.rows.items ≡ thread_rows (take l.place l.trace.unlisted) (take l.place (drop (length l.trace.set.tasks) l.beside)))
    × (l.place-end ≡ length l.trace.unlisted)
