use Rattle.std.proofs.Common.{◌≡◌, ◌∙◌, ◌+◌, sym, subst, take, arith}
use Rattle.crossbeam_queue.specs.Passes.{view}
use Rattle.order_queues.specs.Batches.{Sendable, left_in}
use Rattle.order_queues.proofs.Batches.{one_given, sendable_first, still_pops}
use Rattle.order_queues.proofs.parts.ReceiverParts.next.Goals as goal

pub invariant_of-self-2 : goal.invariant_of-self-2
invariant_of-self-2 g c =
    let s = c.args.self.now in
    let got = c.next_order-order.ensures in
    let all = (view s.pass).received in
    let facts = one_given s.received all (view c.next_order-order.new.pass).received (left_in s.rest) (left_in c.next_order-order.result.1)
    c.next_order-order.result.0 s.counted.1 (got.next (take s.received all) s.left) in
    record {
      counted = (sym c.raise.ensures.1, facts.2);
      left = facts.1;
      role = still_pops (view s.pass) (view c.next_order-order.new.pass) s.role got.same;
    }

pub returns-clause-received : goal.returns-clause-received
returns-clause-received g c =
    let s = c.args.self.now in
    let got = c.next_order-order.ensures in
    let looked = c.look-sent.ensures in
    let all = (view s.pass).received in
    let now = (view c.next_order-order.new.pass).received in
    let left = left_in c.next_order-order.result.1 in
    let facts = one_given s.received all now (left_in s.rest) left c.next_order-order.result.0 s.counted.1
    (got.next (take s.received all) s.left) in
    let tasks : (view c.next_order-order.new.pass).tasks ≡ (view s.pass).tasks = λ i. (got.same i).tasks in
    let lane : c.next_order-order.new.pass.table_id ≡ s.pass.table_id = got.pass.0 ∙ sym c.requires.of.0.0 in
    let sendable = sendable_first (view s.pass).tasks (take (s.received + 1) now) left
    (subst (Sendable (view s.pass).tasks) facts.1 got.sendable) in
    record {
      look = c.look-sent.result;
      looks = looked.looks;
      known = looked.known.0;
      more = looked.known.1;
      queue = λ i. record {
        lane = lane i;
        sent_word = looked.same i;
        received_word = c.raise.ensures.0 i;
        tasks = tasks i;
      };
      answer = (omega (arith, facts.3, c.if-sent-self.false), facts.0, sendable.0, sendable.1);
    }
