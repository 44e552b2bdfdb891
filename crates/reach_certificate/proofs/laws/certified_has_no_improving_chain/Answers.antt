use Rattle.strong_apa.proofs.Improved.{no_improving_chain}
use Rattle.reach_certificate.proofs.laws.certified_has_no_improving_chain.Goals as goal

pub returns : goal.returns
returns c = λ s ok. no_improving_chain s
