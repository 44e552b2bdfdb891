use Rattle.std.proofs.Common.{arith}
use Rattle.trace_losses.proofs.Besides.{beside_none}
use Rattle.trace_losses.proofs.Watches.{none_counted}
use Rattle.trace_losses.proofs.beside.Beside.new.Goals as goal

pub returns-clause-beside : goal.returns-clause-beside
returns-clause-beside c = beside_none c.loop-thread.counts.items c.loop-thread.thread c.loop-thread.invariant

pub returns-clause-kept : goal.returns-clause-kept
returns-clause-kept c = λ t count is.
    (let none = none_counted c.loop-thread.counts.items c.loop-thread.thread c.loop-thread.invariant t count is in omega (arith, none))
