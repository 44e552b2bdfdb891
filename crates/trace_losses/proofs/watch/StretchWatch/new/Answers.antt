use Rattle.std.proofs.Common.{arith}
use Rattle.trace_losses.proofs.Watches.{watch_none, none_counted}
use Rattle.trace_losses.proofs.watch.StretchWatch.new.Goals as goal

pub returns-clause-watch : goal.returns-clause-watch
returns-clause-watch c = watch_none c.args.stretch c.loop-task.counts.items c.loop-task.task c.loop-task.invariant

pub returns-clause-kept : goal.returns-clause-kept
returns-clause-kept c = λ t count is.
    (let none = none_counted c.loop-task.counts.items c.loop-task.task c.loop-task.invariant t count is in omega (arith, none))
