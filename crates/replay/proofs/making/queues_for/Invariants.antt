use Rattle.std.proofs.Common.{◌≡◌, ◌≤◌, length, map}
use Rattle.std.specs.Vec.{vec_capacity}
use Rattle.order_queues.specs.Ends.{new_receiver, new_sender}
use Rattle.event_history.specs.Boards.{AreFor}
use Rattle.replay.proofs.making.queues_for.Given as goal

abbrev pub invariant-loop : goal.invariant-loop
invariant-loop l = record {
  count : length l.queues.items ≡ l.counter;
  senders : l.senders.items ≡ map new_sender l.queues.items;
  receivers : l.receivers.items ≡ map new_receiver l.queues.items;
  tasks : AreFor l.set l.queues.items;
  queue_room : l.count ≤ vec_capacity l.queues;
  sender_room : l.count ≤ vec_capacity l.senders;
  receiver_room : l.count ≤ vec_capacity l.receivers;
}
