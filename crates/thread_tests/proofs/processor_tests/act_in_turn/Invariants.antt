use Rattle.std.proofs.Common.{◌≡◌}
use Rattle.thread_tests.proofs.processor_tests.act_in_turn.Given as goal

abbrev pub invariant-loop-number : goal.invariant-loop-number
invariant-loop-number g l = (l.first.hand.slots ≡ l.slots.id) × (l.second.hand.slots ≡ l.slots.id)
