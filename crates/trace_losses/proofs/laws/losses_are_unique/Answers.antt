use Rattle.trace_losses.proofs.OneLosses as once
use Rattle.trace_losses.proofs.laws.losses_are_unique.Goals as goal

pub returns : goal.returns
returns c = once.losses_are_unique
