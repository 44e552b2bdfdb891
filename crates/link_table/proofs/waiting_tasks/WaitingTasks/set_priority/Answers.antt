use Rattle.std.proofs.Common.{◌<◌, length, set, sym, ap, ◌∙◌, subst, arith, length-set}
use Rattle.std.specs.Vec.{with_item}
use Rattle.std.proofs.lemmas.List.{with_items_is}
use Rattle.link_table.specs.WaitingTasks.{Waiting}
use Rattle.link_table.specs.declared.ranked.Ranked.{Ranked}
use Rattle.link_table.proofs.Ranks.{rank_fits, rank_read}
use Rattle.link_table.proofs.NewPriority.{IsInverse-written, IsRanking-reordered, by_task_of-reordered}
use Rattle.link_table.proofs.waiting_tasks.WaitingTasks.set_priority.Goals as goal

pub index_mut-requires-2 : goal.index_mut-requires-2
index_mut-requires-2 c =
    let a = c.self.inside in
    let number = subst (λ (w : Waiting). c.args.t < length w.priorities) (sym c.self.view_is) c.requires in
    let same = rank_read a.by_task.items a.order.items a.ranks.items a.sets c.self.invariant c.args.t c.index.result.now number
    c.index.ensures in
    let fits = rank_fits a.by_task.items a.order.items a.ranks.items a.sets c.self.invariant c.args.t number in
    omega (arith, same, fits, a.order.ok.0)

pub move_to_place-requires-clause-rank : goal.move_to_place-requires-clause-rank
move_to_place-requires-clause-rank c =
    let a = c.self.inside in
    let number = subst (λ (w : Waiting). c.args.t < length w.priorities) (sym c.self.view_is) c.requires in
    let same = rank_read a.by_task.items a.order.items a.ranks.items a.sets c.self.invariant c.args.t c.index.result.now number
    c.index.ensures in
    let fits = rank_fits a.by_task.items a.order.items a.ranks.items a.sets c.self.invariant c.args.t number in
    let count = length-set a.order.items c.index.result.now (record { priority = c.args.priority; task = c.args.t }) in
    omega (arith, same, fits, count, ap length c.deref_mut.ensures.value)

pub move_to_place-requires-clause-inverse : goal.move_to_place-requires-clause-inverse
move_to_place-requires-clause-inverse c =
    let a = c.self.inside in
    let number = subst (λ (w : Waiting). c.args.t < length w.priorities) (sym c.self.view_is) c.requires in
    let same = rank_read a.by_task.items a.order.items a.ranks.items a.sets c.self.invariant c.args.t c.index.result.now number
    c.index.ensures in
    rw (c.deref_mut.ensures.value, c.deref_mut-2.ensures.value, same)
    (IsInverse-written a.by_task.items a.order.items a.ranks.items a.sets c.self.invariant c.args.t c.args.priority number)

pub invariant_of-self : goal.invariant_of-self
invariant_of-self c =
    let a = c.self.inside in
    let t = c.args.t in
    let e : Ranked = record { priority = c.args.priority; task = t } in
    let r = c.index.result.now in
    let number = subst (λ (w : Waiting). t < length w.priorities) (sym c.self.view_is) c.requires in
    let same = rank_read a.by_task.items a.order.items a.ranks.items a.sets c.self.invariant t r number c.index.ensures in
    let new = c.move_to_place.new in
    let moved = rw (c.deref_mut.ensures.value, c.deref_mut-2.ensures.value, same) at c.move_to_place.ensures.moved in
    let order_count = c.move_to_place.auto.order ∙ ap length c.deref_mut.ensures.value ∙ length-set a.order.items r e ∙ sym a.order.ok.0 in
    let ranks_count = c.move_to_place.auto.ranks ∙ ap length c.deref_mut-2.ensures.value ∙ sym a.ranks.ok.0 in
    rw (with_items_is (with_item a.order r e) new.order order_count, with_items_is a.ranks new.ranks ranks_count)
    (IsRanking-reordered a.by_task.items a.order.items a.ranks.items a.sets c.self.invariant t c.args.priority number new.order new.ranks
    new.sets moved c.move_to_place.ensures.sorted)

pub returns : goal.returns
returns c =
    let a = c.self.inside in
    let t = c.args.t in
    let number = subst (λ (w : Waiting). t < length w.priorities) (sym c.self.view_is) c.requires in
    let same = rank_read a.by_task.items a.order.items a.ranks.items a.sets c.self.invariant t c.index.result.now number c.index.ensures in
    let new = c.move_to_place.new in
    let moved = rw (c.deref_mut.ensures.value, c.deref_mut-2.ensures.value, same) at c.move_to_place.ensures.moved in
    let ranks_count = c.move_to_place.auto.ranks ∙ ap length c.deref_mut-2.ensures.value ∙ sym a.ranks.ok.0 in
    rw (
      with_items_is a.ranks new.ranks ranks_count,
      by_task_of-reordered a.by_task.items a.order.items a.ranks.items a.sets c.self.invariant t c.args.priority number new.order
          new.ranks new.sets moved,
    )
    (ap (λ (w : Waiting). record w { priorities = set w.priorities t c.args.priority }) c.self.view_is)
