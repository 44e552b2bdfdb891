use Rattle.std.proofs.Common.{ap, sym, ◌∙◌}
use Rattle.task_set.specs.Orders.{has_stop}
use Rattle.order_queues.specs.Ends.{SenderData, ReceiverData}
use Rattle.order_queues.proofs.queue.settle.Goals as goal

pub returns-clause-whole : goal.returns-clause-whole
returns-clause-whole c h =
    let received = ap (λ (r : ReceiverData). r.received) c.receiver.view_is in
    let sent = ap (λ (s : SenderData). s.sent) c.sender.view_is in
    sym received ∙ c.settle.ensures.stopped (ap has_stop received ∙ h) ∙ sent
