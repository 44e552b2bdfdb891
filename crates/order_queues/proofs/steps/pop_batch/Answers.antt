use Rattle.std.proofs.Common.{ap, ◌∙◌}
use Rattle.order_queues.specs.declared.lane.EndView.{EndView}
use Rattle.order_queues.proofs.QueueSteps.{pop_keeps}
use Rattle.order_queues.proofs.steps.pop_batch.Goals as goal

pub try_pop_as-requires-clause-rule : goal.try_pop_as-requires-clause-rule
try_pop_as-requires-clause-rule g c = pop_keeps _ _ (ap (λ (v : EndView). v.pops) c.loop.invariant.1 ∙ c.requires.role)
