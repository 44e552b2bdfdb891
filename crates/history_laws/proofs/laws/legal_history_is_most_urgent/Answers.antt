use Rattle.strong_apa.specs.CertificateLaws.{LinkedIsLargest, LinkedIsAsUrgent}
use Rattle.history_laws.proofs.LegalHistories.{legal_is_most_urgent-from, throughout_legal-set}
use Rattle.history_laws.proofs.laws.legal_history_is_most_urgent.Goals as goal

pub returns-clause-from_start : goal.returns-clause-from_start
returns-clause-from_start c = legal_is_most_urgent-from

pub returns-clause-of_set : goal.returns-clause-of_set
returns-clause-of_set c = throughout_legal-set (λ s. LinkedIsLargest s × LinkedIsAsUrgent s) legal_is_most_urgent-from
