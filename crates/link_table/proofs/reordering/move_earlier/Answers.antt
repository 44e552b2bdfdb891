use Rattle.std.proofs.Common.{◌≡◌, ℕ, ◌+◌, ◌-◌, ◌<◌, length, get_or, subst, arith}
use Rattle.link_table.specs.Reordering.{IsNonDecreasingBut, IsMostUrgentFrom}
use Rattle.link_table.proofs.Steps.{nobody, Reordered-trans, IsNonDecreasingBut-earlier, IsMostUrgentFrom-earlier, IsNonDecreasingBy-found}
use Rattle.link_table.proofs.reordering.move_earlier.Goals as goal

pub loop-r-preserved : goal.loop-r-preserved
loop-r-preserved c =
    let i = c.loop-r.invariant in
    let order = c.loop-r.order in
    let r = c.loop-r.r in
    let then = c.swap_with_next.new in
    let back : r ≡ r - 1 + 1 = omega (arith, c.loop-r-test.true) in
    let next : r - 1 + 1 < length order = omega (arith, c.loop-r-test.true, i.within) in
    let sorted = subst (λ (n : ℕ). IsNonDecreasingBut n order) back i.sorted in
    let urgent = subst (λ (n : ℕ). IsMostUrgentFrom n order) back i.urgent in
    let less = subst (λ (n : ℕ). (get_or order n nobody).priority < (get_or order (r - 1) nobody).priority) back c.if-order-r.true in
    record {
      within = omega (arith, i.within, c.swap_with_next.auto.order);
      sorted = rw c.swap_with_next.ensures.order (IsNonDecreasingBut-earlier order (r - 1) next sorted);
      urgent = rw c.swap_with_next.ensures.order (IsMostUrgentFrom-earlier order (r - 1) next urgent less);
      moved = Reordered-trans c.args.order.now c.args.ranks.now c.args.sets.now order c.loop-r.ranks c.loop-r.sets then.order then.ranks
          then.sets i.moved c.swap_with_next.ensures.moved;
    }

pub returns-else-order-r-clause-sorted : goal.returns-else-order-r-clause-sorted
returns-else-order-r-clause-sorted c =
    IsNonDecreasingBy-found c.loop-r.order c.loop-r.r c.loop-r.invariant.sorted c.loop-r.invariant.urgent c.loop-r-test.true
    c.loop-r.invariant.within c.if-order-r.false
