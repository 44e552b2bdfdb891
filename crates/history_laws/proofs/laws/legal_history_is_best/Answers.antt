use Rattle.strong_apa.specs.CertificateLaws.{LinkedIsBest}
use Rattle.history_laws.proofs.LegalHistories.{legal_is_best-from, throughout_legal-set}
use Rattle.history_laws.proofs.laws.legal_history_is_best.Goals as goal

pub returns-clause-from_start : goal.returns-clause-from_start
returns-clause-from_start c = legal_is_best-from

pub returns-clause-of_set : goal.returns-clause-of_set
returns-clause-of_set c = throughout_legal-set LinkedIsBest legal_is_best-from
