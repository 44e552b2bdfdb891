use Rattle.task_set.proofs.Entries.{name_absent, name_found}
use Rattle.task_set.proofs.set.TaskSet.find.Goals as goal
use Rattle.std.proofs.Common.{sym}

pub returns-in_err-t : goal.returns-in_err-t
returns-in_err-t c =
    rw (c.from_residual.ensures, ← c.self.view_is) (name_absent c.self.inside.tasks.entries c.args.name.now (sym c.in_err-t.ensures.index))

pub returns : goal.returns
returns c = rw (← c.self.view_is) (name_found c.self.inside.tasks.entries c.args.name.now c.in_ok-t.t (sym c.in_ok-t.ensures.index))
