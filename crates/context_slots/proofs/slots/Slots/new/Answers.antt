use Rattle.std.proofs.Common.{[], length, refl, arith, ◌∙◌, sym, ap, subst}
use Rattle.task_set.specs.TaskSet.{SetData, IsTaskSet}
use Rattle.context_slots.specs.Hands.{AreNewHandsFrom}
use Rattle.context_slots.specs.HandSeats.{hand_data_of}
use Rattle.context_slots.specs.HandSteps.{dealing}
use Rattle.context_slots.proofs.Gathering.{new_more, is_new, new_whole, last_whole, first_new}
use Rattle.context_slots.proofs.slots.Slots.new.Goals as goal

pub loop-number-preserved : goal.loop-number-preserved
loop-number-preserved c =
    let i = c.loop-number.invariant in
    let first = c.deal-hand_seat.ensures.first in
    let hand = c.deal-hand_seat.ensures.hand in
    let table = c.in_ok-table.table.shared.table_id in
    record {
      at_table = first.1;
      first = first.2;
      zero = first.0 ∙ i.zero;
      count = omega (arith, i.count, c.push_reserved.ensures.len);
      room = omega (arith, i.room, c.push_reserved.ensures.capacity);
      new = subst (AreNewHandsFrom table 1) (sym c.push_reserved.ensures.items)
          (new_more table 1 c.loop-number.number c.loop-number.hands.items (hand_data_of c.deal-hand_seat.result) i.new
          (is_new c.deal-hand_seat.result table c.loop-number.number hand.0 hand.1 hand.2) (omega (arith, i.count)));
    }

pub loop-number-init : goal.loop-number-init
loop-number-init c =
    let table = c.in_ok-table.ensures.table in
    record {
      at_table = table.3;
      first = c.in_ok-table.ensures.seat ∙ ap (λ (s : SetData). (dealing s.processors 1, [])) (sym table.2);
      zero = refl;
      count = omega (arith, c.in_ok-hands.ensures.len);
      room = omega (arith, c.in_ok-hands.ensures.capacity);
      new = subst (AreNewHandsFrom c.in_ok-table.table.shared.table_id 1) (sym c.in_ok-hands.ensures.items) tt;
    }

pub deal-hand_seat-requires-clause-table : goal.deal-hand_seat-requires-clause-table
deal-hand_seat-requires-clause-table c = (c.loop-number.invariant.at_table, omega (arith, c.in_ok-table.ensures.table.0))

pub deal-hand_seat-requires-clause-first : goal.deal-hand_seat-requires-clause-first
deal-hand_seat-requires-clause-first c = c.loop-number.invariant.first

pub invariant_of-push_reserved : goal.invariant_of-push_reserved
invariant_of-push_reserved c = new_whole c.deal-hand_seat.result c.loop-number.number c.deal-hand_seat.ensures.hand.2

pub invariant_of-insert : goal.invariant_of-insert
invariant_of-insert c =
    let processors = ap (λ (s : SetData). s.processors) c.in_ok-table.ensures.table.2 in
    last_whole c.loop-number.first c.in_ok-table.table.shared.key.set.value.processors c.loop-number.number c.loop-number.invariant.first
    (omega (
      arith,
      processors,
      c.processors-processors.ensures.value,
      c.processors-processors.ensures.valid.processors,
      c.loop-number-test.false,
    ))

pub invariant_of-result : goal.invariant_of-result
invariant_of-result c = subst IsTaskSet (sym c.in_ok-table.ensures.table.2) c.processors-processors.ensures.valid

pub returns-clause-hands : goal.returns-clause-hands
returns-clause-hands c =
    let i = c.loop-number.invariant in
    let table = c.in_ok-table.table.shared in
    let processors = ap (λ (s : SetData). s.processors) c.in_ok-table.ensures.table.2 in
    let one = first_new c.loop-number.first table.key.set.value.processors c.loop-number.number i.first table.table_id i.zero i.at_table in (
      omega (
        arith,
        ap length c.in_ok-insert.ensures.items,
        i.count,
        processors,
        c.processors-processors.ensures.value,
        c.processors-processors.ensures.valid.processors,
        c.loop-number-test.false,
      ),
      subst (AreNewHandsFrom table.table_id 0) (sym c.in_ok-insert.ensures.items) (one, i.new),
    )
