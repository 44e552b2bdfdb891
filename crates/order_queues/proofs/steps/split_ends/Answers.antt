use Rattle.order_queues.proofs.QueueSteps.{two_ends_keep}
use Rattle.order_queues.proofs.steps.split_ends.Goals as goal

pub another-requires-clause-rule : goal.another-requires-clause-rule
another-requires-clause-rule g c = two_ends_keep _ _ _ c.requires.pass.1
