use Rattle.std.proofs.Common.{◌≡◌}
use Rattle.thread_tests.proofs.queue_tests.receive_six.Given as goal

abbrev pub invariant-loop-order : goal.invariant-loop-order
invariant-loop-order g l = l.receiver.queue ≡ l.queue
