use Rattle.strong_apa.proofs.Ends.{least_chain_to_idle, least_chain_to_task, least_back_chain}
use Rattle.strong_apa.proofs.laws.least_chains_are_short.Goals as goal

pub returns-clause-to_idle : goal.returns-clause-to_idle
returns-clause-to_idle c = least_chain_to_idle

pub returns-clause-to_task : goal.returns-clause-to_task
returns-clause-to_task c = least_chain_to_task

pub returns-clause-back : goal.returns-clause-back
returns-clause-back c = least_back_chain
