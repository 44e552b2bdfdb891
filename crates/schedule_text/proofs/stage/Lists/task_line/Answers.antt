use Rattle.std.proofs.lemmas.Result.{err_from_is_err_and}
use Rattle.schedule_text.proofs.stage.Lists.task_line.Goals as goal

pub returns-in_err-count-clause-refused : goal.returns-in_err-count-clause-refused
returns-in_err-count-clause-refused c =
    let p = err_from_is_err_and c.from_residual.result c.from_residual.ensures.1 in
    rw (p.1, p.2) (c.in_err-count.ensures.refused c.args.self.now.version)

pub returns-in-Some-clause-read : goal.returns-in-Some-clause-read
returns-in-Some-clause-read c =
    rw c.clear.ensures.items
    (rw c.in-Some.is at (c.in_ok-count.ensures.read c.args.self.now.version))

pub returns-in_default-clause-read : goal.returns-in_default-clause-read
returns-in_default-clause-read c =
    rw c.requires (rw c.in_default.is at (c.in_ok-count.ensures.read c.args.self.now.version))
