use Rattle.std.proofs.Common.{arith}
use Rattle.link_table.proofs.Steps.{Reordered-trans, IsNonDecreasingBut-later, IsMostUrgentFrom-next}
use Rattle.link_table.proofs.reordering.move_later.Goals as goal

pub loop-r-preserved : goal.loop-r-preserved
loop-r-preserved c =
    let i = c.loop-r.invariant in
    let then = c.swap_with_next.new in
    record {
      within = omega (arith, c.loop-r-test.true, c.swap_with_next.auto.order);
      sorted = rw c.swap_with_next.ensures.order (IsNonDecreasingBut-later c.loop-r.order c.loop-r.r c.loop-r-test.true i.sorted);
      moved = Reordered-trans c.args.order.now c.args.ranks.now c.args.sets.now c.loop-r.order c.loop-r.ranks c.loop-r.sets then.order
          then.ranks then.sets i.moved c.swap_with_next.ensures.moved;
    }

pub returns-else-order-r-clause-urgent : goal.returns-else-order-r-clause-urgent
returns-else-order-r-clause-urgent c =
    IsMostUrgentFrom-next c.loop-r.order c.loop-r.r c.loop-r-test.true c.loop-r.invariant.sorted c.if-order-r.false
