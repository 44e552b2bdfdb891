use Rattle.std.proofs.Common.{subst, arith}
use Rattle.std.proofs.lemmas.List.{get_or_read}
use Rattle.link_table.specs.WaitingTasks.{Waiting, IsNobodyFor, IsFirstFor}
use Rattle.link_table.proofs.Ranks.{met_fits, nobody_for, first_for}
use Rattle.link_table.proofs.waiting_tasks.WaitingTasks.first_for.Goals as goal

pub index-requires : goal.index-requires
index-requires c =
    let a = c.self.inside in
    let fits = met_fits a.by_task.items a.order.items a.ranks.items a.sets c.self.invariant c.args.set c.in-Some.rank
    c.in-Some.ensures.meets in
    omega (arith, fits, a.order.ok.0)

pub returns-in_default : goal.returns-in_default
returns-in_default c =
    let a = c.self.inside in
    subst (λ (w : Waiting). IsNobodyFor w c.args.set) c.self.view_is
    (nobody_for a.by_task.items a.order.items a.ranks.items a.sets c.self.invariant c.args.set c.in_default.ensures)

pub returns : goal.returns
returns c =
    let a = c.self.inside in
    let fits = met_fits a.by_task.items a.order.items a.ranks.items a.sets c.self.invariant c.args.set c.in-Some.rank
    c.in-Some.ensures.meets in
    subst (λ (w : Waiting). IsFirstFor w c.args.set c.index.result.now.task) c.self.view_is
    (first_for a.by_task.items a.order.items a.ranks.items a.sets c.self.invariant c.args.set c.in-Some.rank c.index.result.now
    c.in-Some.ensures (λ d. get_or_read a.order.items c.in-Some.rank c.index.result.now fits c.index.ensures d))
