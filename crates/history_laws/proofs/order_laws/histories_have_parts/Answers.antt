use Rattle.history_laws.proofs.HistoryParts.{state_after_parts, legal_in_parts, prefix_is_legal}
use Rattle.history_laws.proofs.order_laws.histories_have_parts.Goals as goal

pub returns-clause-state : goal.returns-clause-state
returns-clause-state c = state_after_parts

pub returns-clause-legal : goal.returns-clause-legal
returns-clause-legal c = legal_in_parts

pub returns-clause-prefix : goal.returns-clause-prefix
returns-clause-prefix c = prefix_is_legal
