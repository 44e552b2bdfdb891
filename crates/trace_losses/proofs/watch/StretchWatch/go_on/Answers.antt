use Rattle.std.proofs.Common.{◌≡◌, ◌∙◌, ℕ, ap, arith}
use Rattle.trace_losses.proofs.WatchLists.{goes_on}
use Rattle.trace_losses.proofs.watch.StretchWatch.go_on.Goals as goal

pub returns : goal.returns
returns c = record {
  stretch = c.pass.ensures.stretch;
  goes_on = λ tasks moments is.
      goes_on tasks moments c.args.units c.args.seen.now c.args.self.now c.pass.new.self is (c.pass.ensures.watch moments is.all is.counted)
      c.pass.ensures.stretch c.pass.ensures.kept c.pass.ensures.moments c.pass.ensures.tasks;
}
