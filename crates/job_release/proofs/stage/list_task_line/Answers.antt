use Rattle.std.proofs.Common.{refl, inr}
use Rattle.job_release.proofs.stage.list_task_line.Goals as goal

pub returns-in-None-clause-refused : goal.returns-in-None-clause-refused
returns-in-None-clause-refused c = inr (inr (rw c.version.ensures.value at c.in-None.ensures, refl))
