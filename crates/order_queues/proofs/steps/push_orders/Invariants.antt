use Rattle.std.proofs.Common.{◌≡◌, ◌≤◌, ◌-◌, ◌++◌, length, take}
use Rattle.crossbeam_queue.specs.Passes.{view, IsPassOf}
use Rattle.order_queues.specs.Queue.{end_view}
use Rattle.order_queues.proofs.steps.push_orders.Given as goal

abbrev pub decreases-loop-done : goal.decreases-loop-done
decreases-loop-done g l = length l.orders - l.done

abbrev pub invariant-loop-done : goal.invariant-loop-done
invariant-loop-done g l = record {
  pass : IsPassOf l.lane l.pass;
  done : l.done ≤ length l.orders;
  sent : view l.pass ≡ end_view (view l.initial.pass).pushes (view l.initial.pass).pops ((view l.initial.pass).sent ++ take l.done l.orders)
      (view l.initial.pass).received (view l.initial.pass).tasks;
}
