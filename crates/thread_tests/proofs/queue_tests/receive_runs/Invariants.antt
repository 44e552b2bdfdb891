use Rattle.std.proofs.Common.{◌≡◌}
use Rattle.thread_tests.proofs.queue_tests.receive_runs.Given as goal

abbrev pub invariant-loop-count : goal.invariant-loop-count
invariant-loop-count g l = l.receiver.queue ≡ l.queue
