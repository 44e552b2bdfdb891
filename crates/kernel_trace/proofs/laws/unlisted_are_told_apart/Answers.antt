use Rattle.kernel_trace.proofs.ToldApart.{unlisted_are_told_apart}
use Rattle.kernel_trace.proofs.laws.unlisted_are_told_apart.Goals as goal

pub returns : goal.returns
returns c = unlisted_are_told_apart
