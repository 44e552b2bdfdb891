use Rattle.strong_apa.proofs.StepsPass as steps
use Rattle.strong_apa.proofs.passing_laws.step_passes.Goals as goal

pub returns : goal.returns
returns c = steps.step_passes
