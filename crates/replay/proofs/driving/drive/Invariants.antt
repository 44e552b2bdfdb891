use Rattle.std.proofs.Common.{◌≡◌, map}
use Rattle.std.specs.Prelude.{All}
use Rattle.event_history.specs.Boards.{AreEyesOf, Grown}
use Rattle.replay.specs.Driving.{seat_of}
use Rattle.replay.specs.Seats.{IsSeated}
use Rattle.replay.proofs.driving.drive.Given as goal

abbrev pub invariant-loop : goal.invariant-loop
invariant-loop g l = record {
  grown : Grown l.initial.pass l.pass;
  mine : l.pass.mine ≡ l.initial.pass.mine;
  eyes : AreEyesOf l.board.queues l.pass.eyes;
  same : map seat_of l.processors.items ≡ map seat_of l.initial.processors.items;
  seated : All (IsSeated l.queues l.slots) l.processors.items;
}
