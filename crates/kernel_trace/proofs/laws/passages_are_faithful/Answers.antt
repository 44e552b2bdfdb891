use Rattle.kernel_trace.proofs.Passed.{passages_are_faithful}
use Rattle.kernel_trace.proofs.laws.passages_are_faithful.Goals as goal

pub returns : goal.returns
returns c = passages_are_faithful
