use Rattle.std.proofs.Common.{sym}
use Rattle.task_set.specs.SetView.{set_view}
use Rattle.task_set.proofs.Priorities.{priority_absent, priority_found}
use Rattle.task_set.proofs.set.TaskSet.find_priority.Goals as goal

pub returns-in_err-t : goal.returns-in_err-t
returns-in_err-t c = rw (c.from_residual.ensures, ← c.self.view_is)
    (priority_absent (set_view c.self.inside) _ c.args.priority c.self.invariant.priorities (sym c.in_err-t.ensures.index))

pub returns : goal.returns
returns c = rw (← c.self.view_is) (priority_found (set_view c.self.inside) _ c.args.priority c.self.invariant.priorities c.in_ok-t.t
    (sym c.in_ok-t.ensures.index))
