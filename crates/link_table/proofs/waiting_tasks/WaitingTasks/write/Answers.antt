use Rattle.std.proofs.Common.{◌<◌, length, set, sym, ap, subst}
use Rattle.link_table.specs.WaitingTasks.{Waiting}
use Rattle.link_table.proofs.Ranks.{rank_in_row, rank_read, by_task_of-set, IsRanking-set}
use Rattle.link_table.proofs.waiting_tasks.WaitingTasks.write.Goals as goal

pub write-requires : goal.write-requires
write-requires c =
    let a = c.self.inside in
    let number = subst (λ (w : Waiting). c.args.t < length w.priorities) (sym c.self.view_is) c.requires in
    rw (rank_read a.by_task.items a.order.items a.ranks.items a.sets c.self.invariant c.args.t c.index.result.now number c.index.ensures)
    (rank_in_row a.by_task.items a.order.items a.ranks.items a.sets c.self.invariant c.args.t number)

pub invariant_of-self : goal.invariant_of-self
invariant_of-self c =
    let a = c.self.inside in
    let number = subst (λ (w : Waiting). c.args.t < length w.priorities) (sym c.self.view_is) c.requires in
    rw (
      c.write.ensures,
      rank_read a.by_task.items a.order.items a.ranks.items a.sets c.self.invariant c.args.t c.index.result.now number
          c.index.ensures,
    ) (IsRanking-set a.by_task.items a.order.items a.ranks.items a.sets c.self.invariant c.args.t c.args.runs number)

pub returns : goal.returns
returns c =
    let a = c.self.inside in
    let number = subst (λ (w : Waiting). c.args.t < length w.priorities) (sym c.self.view_is) c.requires in
    rw (
      c.write.ensures,
      rank_read a.by_task.items a.order.items a.ranks.items a.sets c.self.invariant c.args.t c.index.result.now number
          c.index.ensures,
      by_task_of-set a.by_task.items a.order.items a.ranks.items a.sets c.self.invariant c.args.t c.args.runs number,
    )
    (ap (λ (w : Waiting). record w { masks = set w.masks c.args.t c.args.runs }) c.self.view_is)
