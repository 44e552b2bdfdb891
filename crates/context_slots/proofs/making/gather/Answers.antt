use Rattle.std.proofs.Common.{rules, arith, ap, ◌∙◌, sym}
use Rattle.task_set.specs.Sum.{total}
use Rattle.context_slots.specs.Hands.{HandData}
use Rattle.context_slots.specs.HandSteps.{SeatState}
use Rattle.context_slots.proofs.Keeps.{joins_lem}
use Rattle.context_slots.proofs.Gathering.{popped_rest, popped_ended, popped_length, joined_ended, joined_free, is_free, popped_below}
use Rattle.context_slots.proofs.Gathering.{own_below}
use Rattle.context_slots.proofs.making.gather.Goals as goal

pub join_seat-requires : goal.join_seat-requires
join_seat-requires c =
    let i = c.loop-hand.invariant in
    let r = (popped_rest _ _ _ c.in-Some.hand c.in-Some.ensures.items i.rest).1 in
    let same = c.into_hand_seat-hand_seat.ensures.data in
    let free = is_free c.into_hand_seat-hand_seat.result c.in-Some.hand same r.1 c.into_hand_seat-hand_seat.ensures.whole in
    (i.table ∙ c.requires.all.0, ap (λ (d : HandData). d.slots) same ∙ r.0, free.1, search rules, joins_lem _ _ _ _ _ i.some_part free.0)

pub loop-hand-preserved : goal.loop-hand-preserved
loop-hand-preserved c =
    let i = c.loop-hand.invariant in
    let items = c.in-Some.ensures.items in
    let hand_seat = c.into_hand_seat-hand_seat.result in
    let r = popped_rest _ _ _ c.in-Some.hand items i.rest in
    let now = c.join_seat.ensures.2 in
    let parts = ap (λ (x : SeatState). x.0.parts) now in
    let len = popped_length _ _ c.in-Some.hand items in
    record {
      table = c.join_seat.ensures.0 ∙ i.table;
      rest = r.0;
      free = joined_free c.loop-hand.all.seat.me _ hand_seat now i.free;
      number = i.number ∙ sym (ap (λ (x : SeatState). x.0.number) now);
      parts = omega (arith, parts, len, i.parts, c.into_hand_seat-hand_seat.ensures.whole.parts);
      some_part = omega (arith, parts, i.some_part);
      own = λ n most rest. i.own n most (popped_below n _ _ c.in-Some.hand items rest
          (own_below n hand_seat c.in-Some.hand c.into_hand_seat-hand_seat.ensures.data
          (omega (arith, r.1.2, len, i.parts, i.some_part, most)) c.into_hand_seat-hand_seat.ensures.whole));
      ended = λ h. omega (
        arith,
        i.ended h,
        joined_ended h c.loop-hand.all.seat.me _ hand_seat now,
        ap (λ (d : HandData). total h d.ended)
            c.into_hand_seat-hand_seat.ensures.data,
        popped_ended h _ _ c.in-Some.hand items,
      );
    }
