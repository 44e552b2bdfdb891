use Rattle.std.proofs.Common.{ℕ, ◌+◌, sym, subst, ap}
use Rattle.trace_losses.specs.Moments.{AreOver, losses}
use Rattle.trace_losses.proofs.Overs.{over_whole}
use Rattle.trace_losses.proofs.tally.Tally.over.Goals as goal

pub returns : goal.returns
returns c = λ moments is.
    subst (AreOver (losses moments)) (ap (λ (n : ℕ). c.args.self.ended + n) (sym c.over.ensures))
    (over_whole (losses moments) c.args.self.current is.current c.args.self.ended is.ended)
