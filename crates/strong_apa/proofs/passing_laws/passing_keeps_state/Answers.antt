use Rattle.strong_apa.proofs.KeptStates as kept
use Rattle.strong_apa.proofs.passing_laws.passing_keeps_state.Goals as goal

pub returns : goal.returns
returns c = kept.passing_keeps_state
