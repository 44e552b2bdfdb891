use Rattle.std.proofs.Common.{length, arith, ap, sym, subst, ◌∙◌}
use Rattle.atomic_table.specs.Seated.{TableId}
use Rattle.task_set.specs.Sum.{total}
use Rattle.context_slots.specs.Hands.{SlotsData, HandData, AreFreeFrom, all_ended}
use Rattle.context_slots.specs.Carried.{AllCarried}
use Rattle.context_slots.proofs.Gathering.{popped_rest, popped_ended, popped_length, popped_below, own_below, is_free, same_came}
use Rattle.context_slots.proofs.Carrying.{all_carried, are_own}
use Rattle.context_slots.proofs.slots.Slots.close.Goals as goal

pub gather-requires-clause-all : goal.gather-requires-clause-all
gather-requires-clause-all c =
    let r = (popped_rest _ _ _ c.in-Some.last c.in-Some.ensures.items c.requires.1).1 in
    let is = c.into_hand_seat-all.ensures.data in (
      ap (λ (d : HandData). d.slots) is ∙ r.0 ∙ sym (ap (λ (s : SlotsData). s.id) c.self.view_is),
      is_free c.into_hand_seat-all.result c.in-Some.last is r.1 c.into_hand_seat-all.ensures.whole,
      c.into_hand_seat-all.ensures.whole.parts,
    )

pub gather-requires-clause-hands : goal.gather-requires-clause-hands
gather-requires-clause-hands c = subst (λ (table : TableId). AreFreeFrom table 0 c.pop.new.self.items)
    (sym (ap (λ (s : SlotsData). s.id) c.self.view_is)) (popped_rest _ _ _ c.in-Some.last c.in-Some.ensures.items c.requires.1).0

pub into_contexts-requires-clause-all : goal.into_contexts-requires-clause-all
into_contexts-requires-clause-all c =
    let r = (popped_rest _ _ _ c.in-Some.last c.in-Some.ensures.items c.requires.1).1 in
    let is = c.into_hand_seat-all.ensures.data in (
      c.gather.ensures.free.0 ∙ ap (λ (d : HandData). d.slots) is ∙ r.0 ∙ sym (ap (λ (s : SlotsData). s.id) c.self.view_is),
      c.gather.ensures.free.1,
      omega (
        arith,
        c.gather.ensures.parts,
        popped_length _ _ c.in-Some.last c.in-Some.ensures.items,
        c.requires.0,
        ap (λ (s : SlotsData). s.set.processors) c.self.view_is,
      ),
    )

all_carried_on : (c : goal.After-into_contexts) → AllCarried (all_ended c.args.hands.items) 0 c.into_contexts.result.items
all_carried_on c =
    let is = c.into_hand_seat-all.ensures.data in
    all_carried _ 0 _ (same_came _ (all_ended c.args.hands.items) 0 _
    (λ g. omega (
      arith,
      c.gather.ensures.ended g,
      ap (λ (d : HandData). total g d.ended) is,
      popped_ended g _ _ c.in-Some.last c.in-Some.ensures.items,
    )) c.into_contexts.ensures.came)

pub returns-clause-contexts : goal.returns-clause-contexts
returns-clause-contexts c = (
  c.into_contexts.ensures.length ∙ c.self.inside.words.counted
      ∙ ap (λ (s : SlotsData). length s.set.tasks) c.self.view_is,
  all_carried_on c,
)

pub returns-clause-own : goal.returns-clause-own
returns-clause-own c =
    let items = c.in-Some.ensures.items in
    let r = (popped_rest _ _ _ c.in-Some.last items c.requires.1).1 in
    let count = popped_length _ _ c.in-Some.last items in
    let m = c.args.self.set.processors in
    let hand_seat = c.into_hand_seat-all in
    let below = popped_below m _ _ c.in-Some.last items (c.gather.ensures.own m (omega (arith, count, c.requires.0)))
    (own_below m hand_seat.result c.in-Some.last hand_seat.ensures.data (omega (arith, r.2, count, c.requires.0))
    hand_seat.ensures.whole) in
    are_own m (all_ended c.args.hands.items) 0 _ below (all_carried_on c)
