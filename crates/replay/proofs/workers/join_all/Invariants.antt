use Rattle.std.proofs.Common.{◌≡◌, ◌+◌, ◌≤◌, length}
use Rattle.std.specs.Vec.{vec_capacity}
use Rattle.replay.specs.Crew.{IsCrew}
use Rattle.replay.specs.Places.{AllFrom}
use Rattle.replay.specs.Seats.{HasStoppedAt}
use Rattle.replay.proofs.workers.join_all.Given as goal

abbrev pub invariant-loop-processor : goal.invariant-loop-processor
invariant-loop-processor g l = record {
  count : length l.workers.items + length l.processors.items ≡ length l.initial.workers.items;
  crew : IsCrew (λ n h. (h.promise.queues.now ≡ l.shared.queues.now) × (h.promise.slots.now ≡ l.shared.slots.now) × (h.promise.number ≡ n))
      (HasStoppedAt l.shared.queues.now l.shared.slots.now) 0 l.workers.items l.left.items;
  room : length l.initial.workers.items ≤ vec_capacity l.processors;
  each : AllFrom (HasStoppedAt l.shared.queues.now l.shared.slots.now) (length l.workers.items) l.processors.items;
}

abbrev pub decreases-loop-processor : goal.decreases-loop-processor
decreases-loop-processor g l = length l.workers.items
