use Rattle.std.proofs.Common.{◌≡◌, ◌+◌, ◌≤◌, length, map}
use Rattle.std.specs.Vec.{vec_capacity}
use Rattle.processor_seat.specs.Stepping.{ProcessorData}
use Rattle.event_history.specs.Holdings.{SentBegins, queues_of}
use Rattle.replay.specs.Places.{AllFrom}
use Rattle.replay.specs.Replayed.{HasAllStints}
use Rattle.replay.specs.Seats.{HasStoppedAt}
use Rattle.replay.proofs.ends.end_all.Given as goal

abbrev pub invariant-loop-processor : goal.invariant-loop-processor
invariant-loop-processor l = record {
  count : length l.processors.items + length l.hands.items ≡ length l.initial.processors.items;
  senders : queues_of l.senders.items ≡ l.queues.items;
  receivers : map (λ (p : ProcessorData). p.receiver.queue) l.processors.items ≡ l.queues.items;
  sent : SentBegins l.core l.senders.items;
  stopped : AllFrom (HasStoppedAt l.initial.queues.items l.slots) 0 l.processors.items;
  room : length l.initial.processors.items ≤ vec_capacity l.hands;
  each : AllFrom (HasAllStints l.slots l.core.history) (length l.processors.items) l.hands.items;
}

abbrev pub decreases-loop-processor : goal.decreases-loop-processor
decreases-loop-processor l = length l.processors.items
