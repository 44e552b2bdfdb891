use Rattle.std.proofs.Common.{refl, inr}
use Rattle.job_release.proofs.stage.start.Goals as goal

pub returns-in_default-clause-refused : goal.returns-in_default-clause-refused
returns-in_default-clause-refused c = inr (inr (rw c.most_time.ensures at c.in_default.ensures, refl))
