use Rattle.std.proofs.Common.{◌≤◌, arith}
use Rattle.std.proofs.lemmas.Bool.Decides.{nat_tests}
use Rattle.job_release.proofs.Latest.{late_is}
use Rattle.job_release.proofs.outcome.is_late.Goals as goal

pub returns-in-Some-finish : goal.returns-in-Some-finish
returns-in-Some-finish c = λ states t goal is.
    let within : c.in-Some.due ≤ c.args.horizon = grind (arith, nat_tests, c.if-due-horizon.false) in
    rw c.in-Some.is (late_is states t goal c.args.horizon c.in-Some.due c.in-Some-finish.finish within (rw c.in-Some-finish.is at is))
