use Rattle.std.proofs.Common.{◌≡◌, ◌+◌, ◌≤◌, [], vec_len}
use Rattle.std.specs.Vec.{vec_capacity}
use Rattle.context_slots.specs.Hands.{AreNewHandsFrom}
use Rattle.context_slots.specs.HandSteps.{dealing}
use Rattle.context_slots.proofs.slots.Slots.new.Given as goal

abbrev pub invariant-loop-number : goal.invariant-loop-number
invariant-loop-number l = record {
  at_table : l.first.seat.table_id ≡ l.table.shared.table_id;
  first : l.first.seat.me ≡ (dealing l.table.shared.key.set.value.processors l.number, []);
  zero : l.first.number ≡ 0;
  count : vec_len l.hands + 1 ≡ l.number;
  room : l.processors ≤ vec_capacity l.hands;
  new : AreNewHandsFrom l.table.shared.table_id 1 l.hands.items;
}
