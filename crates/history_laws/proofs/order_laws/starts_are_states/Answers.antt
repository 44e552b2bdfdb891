use Rattle.strong_apa.proofs.Start.{IsState-start}
use Rattle.history_laws.proofs.Starts.{nobody_ready}
use Rattle.history_laws.proofs.order_laws.starts_are_states.Goals as goal

pub returns-clause-state : goal.returns-clause-state
returns-clause-state c = IsState-start

pub returns-clause-nobody : goal.returns-clause-nobody
returns-clause-nobody c = nobody_ready
