use Rattle.std.proofs.Common.{◌≡◌, ap, ◌∙◌, slice_get, Some}
use Rattle.order_queues.specs.Ends.{QueueData}
use Rattle.replay.proofs.Seating.{queue_read, tasks_at}
use Rattle.replay.proofs.workers.queue_of.Goals as goal

pub returns-clause-made_for : goal.returns-clause-made_for
returns-clause-made_for c =
    let queues = c.args.queues.now in
    let queue = c.args.processor.now.receiver.queue in
    let at : slice_get queues c.number.result ≡ Some queue = ap (slice_get queues) c.number.ensures ∙ c.requires.seat.of_queue in
    ap (λ (q : QueueData). q.tasks) (queue_read queues c.number.result queue c.index-queues-number.result at c.index-queues-number.is)
    ∙ tasks_at c.args.slots.now.set queues c.number.result queue c.requires.tasks at
