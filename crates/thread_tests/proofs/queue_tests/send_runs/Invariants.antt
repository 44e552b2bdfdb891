use Rattle.std.proofs.Common.{◌≡◌}
use Rattle.thread_tests.proofs.queue_tests.send_runs.Given as goal

abbrev pub invariant-loop-count : goal.invariant-loop-count
invariant-loop-count g l = l.end ≡ l.queue
