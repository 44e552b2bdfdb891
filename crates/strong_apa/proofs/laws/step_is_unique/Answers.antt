use Rattle.strong_apa.proofs.Unique as unique
use Rattle.strong_apa.proofs.laws.step_is_unique.Goals as goal

pub returns : goal.returns
returns c = unique.step_is_unique
