use Rattle.scheduling_laws.proofs.FewestMoves.{step_moves_fewest, legal_moves_fewest}
use Rattle.scheduling_laws.proofs.laws.fewest_tasks_are_moved.Goals as goal

pub returns-clause-step : goal.returns-clause-step
returns-clause-step c = step_moves_fewest

pub returns-clause-legal : goal.returns-clause-legal
returns-clause-legal c = legal_moves_fewest
