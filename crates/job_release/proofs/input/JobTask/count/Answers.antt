use Rattle.std.proofs.Common.{sym, arith}
use Rattle.job_release.proofs.Released.{released_is, released_when_divided}
use Rattle.job_release.proofs.input.JobTask.count.Goals as goal

pub returns-then-horizon-self : goal.returns-then-horizon-self
returns-then-horizon-self c = sym (released_is c.args.self.now 0 c.args.horizon c.requires (λ k below. absurd (omega arith)) (omega arith))

pub returns-else-horizon-self : goal.returns-else-horizon-self
returns-else-horizon-self c = sym (released_when_divided c.args.self.now c.args.horizon c.requires (omega arith))
