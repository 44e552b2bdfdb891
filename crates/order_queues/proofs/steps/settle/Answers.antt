use Rattle.std.proofs.Common.{ap, sym, subst, ◌≡◌, ◌++◌, ◌∙◌, append_assoc}
use Rattle.crossbeam_queue.specs.Passes.{view}
use Rattle.task_set.specs.Orders.{IsObeyable}
use Rattle.order_queues.specs.declared.lane.EndView.{EndView}
use Rattle.order_queues.specs.Batches.{left_in, orders_in}
use Rattle.order_queues.specs.Views.{given}
use Rattle.order_queues.proofs.QueueSteps.{one_end_keeps, whole_after_stop}
use Rattle.order_queues.proofs.steps.settle.Goals as goal

pub absorb-requires-clause-rule : goal.absorb-requires-clause-rule
absorb-requires-clause-rule c =
    one_end_keeps _ _ _ _ (ap (λ (v : EndView). v.pushes) c.args.sender.role) (ap (λ (v : EndView). v.pops) c.args.receiver.role)

pub returns-clause-begins : goal.returns-clause-begins
returns-clause-begins c =
    let t = c.learn_as.ensures.rule in
    let known = subst (λ (v : EndView). (v.sent ≡ v.received ++ orders_in t.0) × IsObeyable v.sent) c.absorb.ensures.rule t.1 in
    let r = c.args.receiver in
    let left = left_in r.rest in
    (left ++ orders_in t.0, sym (append_assoc (given r) left (orders_in t.0)) ∙ ap (λ l. l ++ orders_in t.0) (sym r.left) ∙ sym known.0)

pub returns-clause-stopped : goal.returns-clause-stopped
returns-clause-stopped c stops =
    let t = c.learn_as.ensures.rule in
    let known = subst (λ (v : EndView). (v.sent ≡ v.received ++ orders_in t.0) × IsObeyable v.sent) c.absorb.ensures.rule t.1 in
    let rest = returns-clause-begins c in
    whole_after_stop (view c.args.sender.pass).sent (given c.args.receiver) rest.0 (sym rest.1) known.1 stops
