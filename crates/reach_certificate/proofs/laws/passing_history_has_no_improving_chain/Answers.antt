use Rattle.strong_apa.proofs.Improved.{passing_has_no_improving_chain}
use Rattle.reach_certificate.proofs.laws.passing_history_has_no_improving_chain.Goals as goal

pub returns : goal.returns
returns c = passing_has_no_improving_chain
