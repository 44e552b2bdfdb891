use Rattle.weak_apa.proofs.Unique as unique
use Rattle.weak_apa.proofs.laws.weak_step_keeps_state.Goals as goal

pub returns : goal.returns
returns c = unique.weak_step_keeps_state
