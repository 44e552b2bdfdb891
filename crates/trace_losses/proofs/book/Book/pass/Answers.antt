use Rattle.std.proofs.Common.{arith, vec_len}
use Rattle.trace_losses.proofs.Books.{book_more, kept_more}
use Rattle.trace_losses.proofs.book.Book.pass.Goals as goal

pub returns-clause-book : goal.returns-clause-book
returns-clause-book c = λ moments is.
    book_more c.args.self.now.tallies.items c.pass_all.new.tallies.items c.args.seen.now c.args.units (vec_len c.args.self.now.tallies)
    c.pass_all.ensures (omega arith) moments c.requires.some is

pub returns-clause-kept : goal.returns-clause-kept
returns-clause-kept c =
    kept_more c.args.self.now.tallies.items c.pass_all.new.tallies.items c.args.seen.now c.args.units (vec_len c.args.self.now.tallies)
    c.pass_all.ensures (omega arith) c.args.self.now.moments c.requires.kept
