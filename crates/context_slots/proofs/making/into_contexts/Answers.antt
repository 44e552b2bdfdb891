use Rattle.std.proofs.Common.{arith, ◌∙◌, sym, subst, refl, ◌+◌, ◌<◌, ◌≡◌, length, Some}
use Rattle.std.specs.Mem.Slots.{slots_items, slots_filled, slots_counts}
use Rattle.context_slots.specs.Homes.{Came, AllCame}
use Rattle.context_slots.proofs.Closing.{came_as, came_snoc, gone_more, left_more}
use Rattle.context_slots.proofs.making.into_contexts.Goals as goal

pub unreachable-requires : goal.unreachable-requires
unreachable-requires c =
    let i = c.loop-t.invariant in
    let v = c.args.all.seat.me.0 in
    let near : c.loop-t.t < length (slots_items c.close_with-closed.result.slots) = omega (
      arith,
      c.close_with-closed.ensures.counts.1,
      (slots_counts c.close_with-closed.result.slots).0,
      c.args.words.sized.1,
      c.loop-t-test.true,
    ) in
    let h = came_as c.args.words.table.shared.key.set.value.processors _ v _ _ _ v.ended c.take.result c.close_with-closed.ensures.values.2
    c.requires.all.2 c.requires.all.1.0 (λ g. refl) c.loop-t.t near i.items c.take.ensures.value in
    c.in_default.not-Some h.0 h.2

pub loop-t-preserved : goal.loop-t-preserved
loop-t-preserved c =
    let i = c.loop-t.invariant in
    let v = c.args.all.seat.me.0 in
    let near : c.loop-t.t < length (slots_items c.close_with-closed.result.slots) = omega (
      arith,
      c.close_with-closed.ensures.counts.1,
      (slots_counts c.close_with-closed.result.slots).0,
      c.args.words.sized.1,
      c.loop-t-test.true,
    ) in
    let h = came_as c.args.words.table.shared.key.set.value.processors _ v _ _ _ v.ended c.take.result c.close_with-closed.ensures.values.2
    c.requires.all.2 c.requires.all.1.0 (λ g. refl) c.loop-t.t near i.items c.take.ensures.value in
    let found : Some h.0 ≡ Some c.in-Some.context = sym h.2 ∙ c.in-Some.is in
    let same : h.0 ≡ c.in-Some.context = cc found in
    let place : 0 + length c.loop-t.contexts.items ≡ c.loop-t.t = omega (arith, i.many) in
    let others = c.take.ensures.others in
    record {
      items = others.0 ∙ i.items;
      len = others.2 ∙ i.len;
      gone = gone_more (slots_filled c.loop-t.closed.slots) _ c.loop-t.t others.1
          (omega (arith, i.len, (slots_counts c.loop-t.closed.slots).1, (slots_counts c.close_with-closed.result.slots).0, near)) i.gone;
      left = left_more (slots_filled c.loop-t.closed.slots) _ c.loop-t.t _ others.1 i.left;
      many = omega (arith, c.push_reserved.ensures.len, i.many);
      room = c.push_reserved.ensures.capacity ∙ i.room;
      came = subst (AllCame v.ended 0) (sym c.push_reserved.ensures.items)
          (came_snoc v.ended 0 c.loop-t.contexts.items c.in-Some.context i.came
          (subst (λ k. Came v.ended k c.in-Some.context) (sym place) (subst (Came v.ended c.loop-t.t) same h.1)));
    }
