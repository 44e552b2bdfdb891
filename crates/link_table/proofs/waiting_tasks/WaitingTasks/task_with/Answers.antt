use Rattle.std.proofs.Common.{rules, ◌<◌, length, sym, subst}
use Rattle.std.proofs.lemmas.List.Sorted.{answers_always}
use Rattle.link_table.specs.declared.ranked.Ranked.{Ranked}
use Rattle.link_table.specs.WaitingTasks.{Waiting, IsNobodyWith, IsTaskWith}
use Rattle.link_table.proofs.Found.{found, not_found}
use Rattle.link_table.proofs.waiting_tasks.WaitingTasks.task_with.Goals as goal

pub returns-in-Ok : goal.returns-in-Ok
returns-in-Ok c =
    let a = c.self.inside in
    let equal = c.in-Ok.ensures.position (λ (e : Ranked). e.priority) (answers_always _ _ _ (λ f a r g called. search rules)) in
    let fits : c.in-Ok.rank < length a.order.items = rw (sym c.deref.ensures.value) c.in-Ok.ensures.bound in
    subst (λ (w : Waiting). IsTaskWith w.priorities c.args.priority c.index.result.now.task) c.self.view_is
    (found a.by_task.items a.order.items c.self.invariant.sorted c.args.priority c.in-Ok.rank c.index.result.now fits c.index.ensures
    (rw c.deref.ensures.value at equal))

pub returns-in-Err : goal.returns-in-Err
returns-in-Err c =
    let a = c.self.inside in
    let parted = c.in-Err.ensures.position (λ (e : Ranked). e.priority) (answers_always _ _ _ (λ f a r g called. search rules)) in
    let fits = rw c.deref.ensures.value at c.in-Err.ensures.bound in
    subst (λ (w : Waiting). IsNobodyWith w.priorities c.args.priority) c.self.view_is
    (not_found a.by_task.items a.order.items c.self.invariant.sorted c.args.priority c.in-Err.field-0 fits
    (rw c.deref.ensures.value at parted))
