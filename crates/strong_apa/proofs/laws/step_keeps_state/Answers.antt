use Rattle.strong_apa.proofs.Steps as steps
use Rattle.strong_apa.proofs.laws.step_keeps_state.Goals as goal

pub returns : goal.returns
returns c = steps.step_keeps_state
