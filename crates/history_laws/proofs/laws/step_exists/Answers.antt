use Rattle.history_laws.proofs.StepExists.{step_exists}
use Rattle.history_laws.proofs.laws.step_exists.Goals as goal

pub returns : goal.returns
returns c = step_exists
