use Rattle.std.proofs.Common.{◌≡◌, ◌+◌, ◌≤◌, length}
use Rattle.std.specs.Vec.{vec_capacity}
use Rattle.replay.specs.Places.{AllFrom}
use Rattle.replay.specs.Seats.{IsIdleAt}
use Rattle.replay.proofs.NewParts.{IsNewHandAt, IsNewReceiverAt}
use Rattle.replay.proofs.making.processors_of.Given as goal

abbrev pub invariant-loop-hand : goal.invariant-loop-hand
invariant-loop-hand l = record {
  count : length l.hands.items + length l.processors.items ≡ length l.queues;
  same : length l.receivers.items ≡ length l.hands.items;
  hands : AllFrom (IsNewHandAt l.slots) 0 l.hands.items;
  receivers : AllFrom (IsNewReceiverAt l.queues) 0 l.receivers.items;
  room : length l.queues ≤ vec_capacity l.processors;
  idle : AllFrom (IsIdleAt l.queues l.slots) (length l.hands.items) l.processors.items;
}

abbrev pub decreases-loop-hand : goal.decreases-loop-hand
decreases-loop-hand l = length l.hands.items
