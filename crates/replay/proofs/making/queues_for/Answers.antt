use Rattle.std.proofs.Common.{List, [], ◌∷◌, ◌++◌, length, length-append, map, arith, sym, ap, ◌∙◌, subst}
use Rattle.std.proofs.lemmas.List.{map-append}
use Rattle.order_queues.specs.Ends.{QueueData, new_receiver, new_sender}
use Rattle.event_history.specs.Boards.{AreFor}
use Rattle.replay.proofs.NewParts.{are_for-push}
use Rattle.replay.proofs.making.queues_for.Goals as goal

pub loop-preserved : goal.loop-preserved
loop-preserved c =
    let i = c.loop.invariant in
    let queues : List QueueData = c.loop.queues.items in
    let queue : QueueData = c.in_ok-queue.queue in
    let items = c.push_reserved.ensures.items in
    let ends = c.in_ok-queue.ensures.ends in
    record {
      count = omega (arith, i.count, ap length items, length-append queues (queue ∷ []));
      senders = c.push_reserved-in-loop.ensures.items ∙ (λ k. i.senders k ++ ends.0 k ∷ [])
          ∙ sym (map-append new_sender queues (queue ∷ [])) ∙ ap (map new_sender) (sym items);
      receivers = c.push_reserved-in-loop-2.ensures.items ∙ (λ k. i.receivers k ++ ends.1 k ∷ [])
          ∙ sym (map-append new_receiver queues (queue ∷ [])) ∙ ap (map new_receiver) (sym items);
      tasks = subst (AreFor c.args.set.now) (sym items)
          (are_for-push c.args.set.now queues queue i.tasks (c.in_ok-queue.ensures.tasks ∙ c.len-tasks.ensures.value));
      queue_room = omega (arith, i.queue_room, c.push_reserved.ensures.capacity);
      sender_room = omega (arith, i.sender_room, c.push_reserved-in-loop.ensures.capacity);
      receiver_room = omega (arith, i.receiver_room, c.push_reserved-in-loop-2.ensures.capacity);
    }
