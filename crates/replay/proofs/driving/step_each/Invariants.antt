use Rattle.std.proofs.Common.{◌≡◌, true, length, map, take}
use Rattle.std.specs.Prelude.{All}
use Rattle.replay.specs.Driving.{IsDone, seat_of}
use Rattle.replay.specs.Seats.{IsSeated}
use Rattle.replay.proofs.driving.step_each.Given as goal

abbrev pub invariant-loop-i : goal.invariant-loop-i
invariant-loop-i g l = record {
  count : length l.processors.items ≡ length l.initial.processors.items;
  same : map seat_of l.processors.items ≡ map seat_of l.initial.processors.items;
  seated : All (IsSeated l.queues l.slots) l.processors.items;
  done : l.stopped ≡ true → All (IsDone l.queues l.slots) (take l.i l.processors.items);
}
