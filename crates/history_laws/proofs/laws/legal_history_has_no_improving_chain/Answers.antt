use Rattle.strong_apa.specs.Improving.{HasNoImprovingChain}
use Rattle.history_laws.proofs.LegalHistories.{legal_has_no_improving_chain-from, throughout_legal-set}
use Rattle.history_laws.proofs.laws.legal_history_has_no_improving_chain.Goals as goal

pub returns-clause-from_start : goal.returns-clause-from_start
returns-clause-from_start c = legal_has_no_improving_chain-from

pub returns-clause-of_set : goal.returns-clause-of_set
returns-clause-of_set c = throughout_legal-set HasNoImprovingChain legal_has_no_improving_chain-from
