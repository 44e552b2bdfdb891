use Rattle.order_queues.proofs.QueueSteps.{new_queue_keeps}
use Rattle.order_queues.proofs.parts.QueueParts.new.Goals as goal

pub ruled-requires-clause-rule : goal.ruled-requires-clause-rule
ruled-requires-clause-rule c = new_queue_keeps
