use Rattle.std.proofs.Common.{◌≡◌}
use Rattle.thread_tests.proofs.queue_tests.send_all.Given as goal

abbrev pub invariant-loop-place : goal.invariant-loop-place
invariant-loop-place g l = l.end ≡ l.queue
