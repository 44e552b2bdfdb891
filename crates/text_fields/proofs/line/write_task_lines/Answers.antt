use Rattle.std.proofs.Common.{arith, ◌<◌, length}
use Rattle.text_fields.proofs.Written.{tasks_more}
use Rattle.text_fields.proofs.line.write_task_lines.Goals as goal

pub loop-t-preserved : goal.loop-t-preserved
loop-t-preserved c =
    let within : c.loop-t.t < length c.args.set.now.tasks = omega (arith, c.len-t-end.ensures.value) in
    tasks_more c.args.set.now c.loop-t.t c.name.result.now c.priority.result c.mask.result _ _ _ within
    c.name.ensures c.priority.ensures c.mask.ensures (omega (arith, c.priority.type_inv)) c.loop-t.invariant
    c.in_ok-write_task_line.ensures
