use Rattle.std.proofs.Common.{refl, inr}
use Rattle.job_release.proofs.stage.list_job_line.Goals as goal

pub returns-in-None-clause-refused : goal.returns-in-None-clause-refused
returns-in-None-clause-refused c = inr (inr (rw c.horizon.ensures.value at c.in-None.ensures, refl))
