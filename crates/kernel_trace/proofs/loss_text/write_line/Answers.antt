use Rattle.kernel_trace.proofs.LossLines.{line_written}
use Rattle.kernel_trace.proofs.loss_text.write_line.Goals as goal

pub returns : goal.returns
returns c =
    line_written c.args.set.now c.args.clock c.args.t c.args.row.now _ _ _ _ c.in_ok-write_name.ensures c.in_ok-write_told.ensures
    c.in_ok-push.ensures.items
