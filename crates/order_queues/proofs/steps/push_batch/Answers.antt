use Rattle.std.proofs.Common.{ap, ◌∙◌, sym, subst, ◌++◌, All}
use Rattle.task_set.specs.Orders.{IsObeyable, NamesTaskBelow}
use Rattle.order_queues.specs.Batches.{batch_orders}
use Rattle.order_queues.specs.declared.lane.EndView.{EndView}
use Rattle.order_queues.proofs.QueueSteps.{push_keeps}
use Rattle.order_queues.proofs.steps.push_batch.Goals as goal

pub try_push_as-requires-clause-rule : goal.try_push_as-requires-clause-rule
try_push_as-requires-clause-rule g c =
    let same = c.loop.invariant.1 in
    push_keeps _ _ _ _ (ap (λ (v : EndView). v.pushes) same ∙ c.requires.role)
    (subst (λ (v : EndView). IsObeyable (v.sent ++ batch_orders c.args.batch)) (sym same) c.requires.obeyable)
    (subst (λ (v : EndView). All (NamesTaskBelow v.tasks) (batch_orders c.args.batch)) (sym same) c.requires.below)
