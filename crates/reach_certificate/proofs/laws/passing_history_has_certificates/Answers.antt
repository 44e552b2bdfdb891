use Rattle.strong_apa.proofs.Kept.{passing_is_certified}
use Rattle.reach_certificate.proofs.laws.passing_history_has_certificates.Goals as goal

pub returns : goal.returns
returns c = passing_is_certified
