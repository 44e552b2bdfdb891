use Rattle.trace_losses.proofs.Restored.{apart_none}
use Rattle.trace_losses.proofs.runners.Runners.new.Goals as goal

pub returns-clause-apart : goal.returns-clause-apart
returns-clause-apart c = apart_none c.loop-thread.processors.items c.loop-thread.thread c.loop-thread.invariant
