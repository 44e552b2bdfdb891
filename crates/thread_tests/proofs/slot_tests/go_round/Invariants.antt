use Rattle.std.proofs.Common.{◌≡◌, None}
use Rattle.thread_tests.proofs.slot_tests.go_round.Given as goal

abbrev pub invariant-loop-i : goal.invariant-loop-i
invariant-loop-i g l = (l.hand.slots ≡ l.slots.id) × (l.hand.holds ≡ None) × (l.hand.number ≡ l.initial.hand.number)
