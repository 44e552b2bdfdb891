use Rattle.std.proofs.Common.{◌≡◌, [], vec_len}
use Rattle.trace_losses.specs.Book.{IsBook, AreKept}
use Rattle.trace_losses.proofs.book.Book.new.Given as goal

abbrev pub invariant-loop-task : goal.invariant-loop-task
invariant-loop-task l = record {
  book : IsBook [] l.tallies.items;
  kept : AreKept 0 l.tallies.items;
  tasks : vec_len l.tallies ≡ l.task;
}
