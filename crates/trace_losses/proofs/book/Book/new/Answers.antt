use Rattle.std.proofs.Common.{◌≡◌, ◌++◌, [], ◌∷◌, sym, subst, arith}
use Rattle.trace_losses.specs.Book.{IsBook, AreKept}
use Rattle.trace_losses.specs.Moments.{IsTally}
use Rattle.trace_losses.specs.Tally.{IsWithin}
use Rattle.trace_losses.specs.declared.tally.Tally.{Tally}
use Rattle.trace_losses.proofs.Books.{each_pushed}
use Rattle.trace_losses.proofs.book.Book.new.Goals as goal

pub loop-task-preserved : goal.loop-task-preserved
loop-task-preserved c =
    let before = c.loop-task.tallies.items in
    let pushed : c.push.new.self.items ≡ before ++ c.new.result ∷ [] = c.in_ok-push.ensures.items in
    record {
      book =
          subst (IsBook []) (sym pushed)
          (each_pushed (λ (tally : Tally). IsTally [] tally) before c.new.result c.loop-task.invariant.book c.new.ensures.tally);
      kept =
          subst (AreKept 0) (sym pushed)
          (each_pushed (λ (tally : Tally). IsWithin tally × (tally.moments ≡ 0)) before c.new.result c.loop-task.invariant.kept
          (c.new.ensures.within, c.new.ensures.moments));
      tasks = omega (arith, c.in_ok-push.ensures.len, c.loop-task.invariant.tasks);
    }
