use Rattle.std.proofs.Common.{◌≡◌}
use Rattle.event_history.specs.Boards.{AreEyesOf, Grown}
use Rattle.replay.proofs.flushing.flush_all.Given as goal

abbrev pub invariant-loop : goal.invariant-loop
invariant-loop g l = record {
  grown : Grown l.initial.pass l.pass;
  mine : l.pass.mine ≡ l.initial.pass.mine;
  eyes : AreEyesOf l.board.queues l.pass.eyes;
}
