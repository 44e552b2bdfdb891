use Rattle.std.proofs.Common.{◌≡◌, ◌≤◌, length}
use Rattle.std.specs.Vec.{vec_capacity}
use Rattle.replay.proofs.rooms.flags.Given as goal

abbrev pub invariant-loop : goal.invariant-loop
invariant-loop l = record {
  count : length l.flags.items ≡ l.counter;
  room : l.count ≤ vec_capacity l.flags;
}
