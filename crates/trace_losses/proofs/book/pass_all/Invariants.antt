use Rattle.trace_losses.specs.Book.{IsPassed}
use Rattle.trace_losses.proofs.book.pass_all.Given as goal

abbrev pub invariant-loop-t : goal.invariant-loop-t
invariant-loop-t l = IsPassed l.initial.tallies.items l.tallies.items l.seen l.units l.t
