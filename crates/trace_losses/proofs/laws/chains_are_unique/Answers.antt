use Rattle.trace_losses.proofs.OneChains as once
use Rattle.trace_losses.proofs.laws.chains_are_unique.Goals as goal

pub returns : goal.returns
returns c = once.chains_are_unique
