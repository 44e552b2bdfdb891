use Rattle.strong_apa.proofs.Passed as passed
use Rattle.strong_apa.proofs.passing_laws.passing_keeps_certificates.Goals as goal

pub returns : goal.returns
returns c = passed.passing_keeps_certificates
