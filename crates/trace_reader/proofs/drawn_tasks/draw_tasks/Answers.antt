use Rattle.std.proofs.Common.{arith, sym, refl}
use Rattle.trace_reader.proofs.Draws.{state_at_start}
use Rattle.trace_reader.proofs.TasksDrawn.{can_add_next, next_is_drawn}
use Rattle.trace_reader.proofs.drawn_tasks.draw_tasks.Goals as goal

pub loop-i-init : goal.loop-i-init
loop-i-init c = rw c.in_ok-set.ensures record {
  processors = refl;
  count = refl;
  each_task = λ i task found. cc;
  at = sym (state_at_start c.args.generator.now.state);
}

pub add_task-requires : goal.add_task-requires
add_task-requires c =
    let number = c.args.generator.now.state in
    can_add_next number c.args.processors c.loop-i.i _ _ _ c.loop-i.set (omega arith) (omega arith) c.loop-i.invariant _
    (c.draw_task-drawn.ensures number c.loop-i.invariant.at)

pub loop-i-preserved : goal.loop-i-preserved
loop-i-preserved c =
    let number = c.args.generator.now.state in
    rw c.in_ok-add_task.ensures (next_is_drawn number c.args.processors c.loop-i.i _ _ _ c.loop-i.set c.loop-i.invariant _
    (c.draw_task-drawn.ensures number c.loop-i.invariant.at))
