use Rattle.std.proofs.Common.{◌+◌, ◌*◌, ◌≤◌, List, length, sym, subst, if◌then◌else◌}
use Rattle.std.specs.Prelude.{All}
use Rattle.task_set.specs.declared.order.Order.{Order}
use Rattle.task_set.specs.Orders.{IsObeyable, NamesTaskBelow, TakesBelow}
use Rattle.strong_apa.specs.State.{task_count}
use Rattle.sched_core.proofs.CoreOrders.{core_obeyable, core_few, core_names_tasks, core_takes_small}
use Rattle.sched_core.proofs.scheduler.Core.orders.Goals as goal

pub returns-clause-obeyable : goal.returns-clause-obeyable
returns-clause-obeyable c = subst IsObeyable (sym c.row.ensures.value) (core_obeyable c.args.self.now c.args.p c.row.ensures.valid)

pub returns-clause-few : goal.returns-clause-few
returns-clause-few c =
    let core = c.args.self.now in
    subst (λ (orders : List Order). length orders ≤ 2 * length core.history + (if core.closed then 2 else 0)) (sym c.row.ensures.value)
    (core_few core c.args.p c.row.ensures.valid)

pub returns-clause-tasks : goal.returns-clause-tasks
returns-clause-tasks c =
    let core = c.args.self.now in
    subst (All (NamesTaskBelow (task_count core.links))) (sym c.row.ensures.value) (core_names_tasks core c.args.p c.row.ensures.valid)

pub returns-clause-takes : goal.returns-clause-takes
returns-clause-takes c =
    let core = c.args.self.now in
    subst (All (TakesBelow (length core.history))) (sym c.row.ensures.value) (core_takes_small core c.args.p c.row.ensures.valid)
