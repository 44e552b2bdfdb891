use Rattle.std.proofs.Common.{◌≡◌, None}
use Rattle.thread_tests.proofs.slot_tests.make_stint.Given as goal

abbrev pub invariant-loop : goal.invariant-loop
invariant-loop g l = (goal.iterator-loop g).can_next l.iterator' × (goal.iterator-loop g).is_finite l.iterator'
    × (l.hand.slots ≡ l.slots.id) × (l.hand.holds ≡ None) × (l.hand.number ≡ l.initial.hand.number)
