use Rattle.kernel_trace.proofs.Imports.{ready_as_mentioned}
use Rattle.kernel_trace.proofs.laws.ready_tasks_are_those_mentioned_as_in.Goals as goal

pub returns : goal.returns
returns c = ready_as_mentioned
