use Rattle.std.proofs.Common.{arith}
use Rattle.crossbeam_queue.specs.Passes.{view}
use Rattle.order_queues.specs.Batches.{batch_orders}
use Rattle.order_queues.proofs.Batches.{of_rest, next_obeyable, next_below, batch_fits, one_entered}
use Rattle.order_queues.proofs.steps.push_orders.Goals as goal

pub push_batch-requires-clause-obeyable : goal.push_batch-requires-clause-obeyable
push_batch-requires-clause-obeyable g c =
    let batch = batch_orders c.of-batch.result in
    let is = of_rest c.loop-done.done c.args.orders.now batch c.of-batch.ensures in
    next_obeyable (view c.args.pass.now) (view c.loop-done.pass) c.loop-done.done c.args.orders.now batch c.loop-done.invariant.sent is
    c.requires.obeyable

pub push_batch-requires-clause-below : goal.push_batch-requires-clause-below
push_batch-requires-clause-below g c =
    let batch = batch_orders c.of-batch.result in
    let is = of_rest c.loop-done.done c.args.orders.now batch c.of-batch.ensures in
    next_below (view c.args.pass.now) (view c.loop-done.pass) c.loop-done.done c.args.orders.now batch c.loop-done.invariant.sent is
    c.requires.below

pub loop-done-preserved : goal.loop-done-preserved
loop-done-preserved g c =
    let i = c.loop-done.invariant in
    let batch = batch_orders c.of-batch.result in
    let is = of_rest c.loop-done.done c.args.orders.now batch c.of-batch.ensures in
    record {
      pass = c.push_batch.ensures.pass;
      done = omega (arith, batch_fits c.loop-done.done c.args.orders.now batch is i.done, c.count-done.ensures);
      sent = one_entered (view c.args.pass.now) (view c.loop-done.pass) (view c.push_batch.new.pass)
          c.loop-done.done c.count-done.result c.args.orders.now batch i.sent c.push_batch.ensures.sent is c.count-done.ensures;
    }
