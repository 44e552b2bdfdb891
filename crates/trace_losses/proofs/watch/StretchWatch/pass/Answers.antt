use Rattle.std.proofs.Common.{◌≡◌, ℕ, subst, arith, length}
use Rattle.trace_losses.specs.Watch.{AreMore}
use Rattle.trace_losses.proofs.Watches.{watch_more, most_more}
use Rattle.trace_losses.proofs.watch.StretchWatch.pass.Goals as goal

pub returns-clause-watch : goal.returns-clause-watch
returns-clause-watch c = λ moments place is.
    watch_more c.args.self.now.stretch moments c.args.self.now.counts.items c.count_all.new.counts.items c.args.seen.now c.args.units
    c.args.self.now.moments (length c.args.self.now.counts.items) place
    (subst
    (λ (n : ℕ). AreMore c.args.self.now.counts.items c.count_all.new.counts.items c.args.seen.now n (length c.args.self.now.counts.items))
    c.overlap-within.ensures c.count_all.ensures)
    (omega arith) is

pub returns-clause-kept : goal.returns-clause-kept
returns-clause-kept c =
    most_more c.args.self.now.counts.items c.count_all.new.counts.items c.args.seen.now c.args.units c.overlap-within.result
    c.args.self.now.moments (length c.args.self.now.counts.items) (omega (arith, c.overlap-within.ensures)) c.count_all.ensures
    (omega arith) c.requires.kept
