use Rattle.std.proofs.Common.{◌≡◌, ◌+◌, ◌≤◌, length}
use Rattle.std.specs.Vec.{vec_capacity}
use Rattle.replay.specs.Crew.{IsCrew}
use Rattle.replay.specs.Places.{AllFrom}
use Rattle.replay.specs.Seats.{IsSeatedAt, IsIdleAt}
use Rattle.replay.proofs.workers.start_all.Given as goal

abbrev pub invariant-loop-processor : goal.invariant-loop-processor
invariant-loop-processor g l = record {
  count : length l.processors.items + length l.workers.items ≡ length l.shared.queues.now;
  few : length l.left.items ≤ length l.workers.items;
  idle : AllFrom (IsIdleAt l.shared.queues.now l.shared.slots.now) 0 l.processors.items;
  room : (length l.shared.queues.now ≤ vec_capacity l.workers) × (length l.shared.queues.now ≤ vec_capacity l.left);
  crew : IsCrew (λ n h. (h.promise.queues.now ≡ l.shared.queues.now) × (h.promise.slots.now ≡ l.shared.slots.now) × (h.promise.number ≡ n))
      (IsSeatedAt l.shared.queues.now l.shared.slots.now) (length l.processors.items) l.workers.items l.left.items;
}

abbrev pub decreases-loop-processor : goal.decreases-loop-processor
decreases-loop-processor g l = length l.processors.items
