use Rattle.strong_apa.proofs.Kept.{passing_is_best}
use Rattle.reach_certificate.proofs.laws.passing_history_is_best.Goals as goal

pub returns : goal.returns
returns c = passing_is_best
