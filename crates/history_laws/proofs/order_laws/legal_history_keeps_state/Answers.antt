use Rattle.strong_apa.proofs.Histories.{IsState-state_after}
use Rattle.history_laws.proofs.order_laws.legal_history_keeps_state.Goals as goal

pub returns : goal.returns
returns c = IsState-state_after
