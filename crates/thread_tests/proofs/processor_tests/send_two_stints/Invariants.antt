use Rattle.std.proofs.Common.{◌≡◌}
use Rattle.thread_tests.proofs.processor_tests.send_two_stints.Given as goal

abbrev pub invariant-loop-order : goal.invariant-loop-order
invariant-loop-order g l = l.end ≡ l.queue
