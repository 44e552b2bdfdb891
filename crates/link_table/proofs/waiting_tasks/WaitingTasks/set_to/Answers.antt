use Rattle.std.proofs.Common.{◌≡◌, length, sym, ap, ◌∙◌, subst}
use Rattle.link_table.specs.SetTree.{IsWidthFor}
use Rattle.link_table.specs.WaitingTasks.{Waiting}
use Rattle.link_table.proofs.Trees.{IsWidthFor-unique}
use Rattle.link_table.proofs.waiting_tasks.WaitingTasks.set_to.Goals as goal

pub set_to-requires : goal.set_to-requires
set_to-requires c =
    let a = c.self.inside in
    let b = c.other.inside in
    let same : a.by_task.items ≡ b.by_task.items = ap (λ (w : Waiting). w.priorities) c.self.view_is ∙ c.requires
    ∙ sym (ap (λ (w : Waiting). w.priorities) c.other.view_is) in
    IsWidthFor-unique (length b.by_task.items) (length a.sets) (length b.sets)
    (subst (λ ps. IsWidthFor (length ps) (length a.sets)) same c.self.invariant.width) c.other.invariant.width
