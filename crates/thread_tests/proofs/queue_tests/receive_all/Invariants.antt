use Rattle.std.proofs.Common.{◌≡◌}
use Rattle.thread_tests.proofs.queue_tests.receive_all.Given as goal

abbrev pub invariant-loop : goal.invariant-loop
invariant-loop g l = l.receiver.queue ≡ l.queue
