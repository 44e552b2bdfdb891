use Rattle.strong_apa.specs.State.{IsState}
use Rattle.strong_apa.specs.Certified.{HasCertificates}
use Rattle.history_laws.proofs.LegalHistories.{legal_is_certified-from, throughout_legal-set}
use Rattle.history_laws.proofs.laws.legal_history_has_certificates.Goals as goal

pub returns-clause-from_start : goal.returns-clause-from_start
returns-clause-from_start c = legal_is_certified-from

pub returns-clause-of_set : goal.returns-clause-of_set
returns-clause-of_set c = throughout_legal-set (λ s. IsState s × HasCertificates s) legal_is_certified-from
