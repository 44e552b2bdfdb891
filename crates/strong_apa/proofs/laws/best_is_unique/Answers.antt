use Rattle.strong_apa.proofs.BestOnce as once
use Rattle.strong_apa.proofs.laws.best_is_unique.Goals as goal

pub returns : goal.returns
returns c = once.best_is_unique
