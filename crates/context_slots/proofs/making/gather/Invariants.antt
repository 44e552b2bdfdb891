use Rattle.std.proofs.Common.{◌≡◌, ℕ, ◌+◌, ◌<◌, ◌≤◌, length}
use Rattle.std.specs.Prelude.{All}
use Rattle.task_set.specs.Orders.{Stint}
use Rattle.task_set.specs.Sum.{total}
use Rattle.context_slots.specs.Hands.{AreFreeFrom, all_ended}
use Rattle.context_slots.specs.HandSteps.{HoldsNothing}
use Rattle.context_slots.proofs.making.gather.Given as goal

abbrev pub invariant-loop-hand : goal.invariant-loop-hand
invariant-loop-hand l = record {
  table : l.all.seat.table_id ≡ l.initial.all.seat.table_id;
  rest : AreFreeFrom l.words.table.shared.table_id 0 l.hands.items;
  free : HoldsNothing l.all.seat.me;
  number : l.all.number ≡ l.all.seat.me.0.number;
  parts : l.all.seat.me.0.parts + length l.hands.items ≡ 1 + length l.initial.hands.items;
  some_part : 0 < l.all.seat.me.0.parts;
  own : (n : ℕ) → length l.initial.hands.items ≤ n → All (λ stint. stint.processor < n) (all_ended l.hands.items)
      → All (λ stint. stint.processor < n) (all_ended l.initial.hands.items);
  ended : (h : Stint → ℕ) → total h l.all.seat.me.0.ended + total h (all_ended l.hands.items) ≡ total h l.initial.all.seat.me.0.ended
      + total h (all_ended l.initial.hands.items);
}

abbrev pub decreases-loop-hand : goal.decreases-loop-hand
decreases-loop-hand l = length l.hands.items
