use Rattle.std.proofs.Common.{◌≡◌}
use Rattle.thread_tests.proofs.ends.End.send_late.Given as goal

abbrev pub invariant-loop : goal.invariant-loop
invariant-loop g l = l.self ≡ l.queue
