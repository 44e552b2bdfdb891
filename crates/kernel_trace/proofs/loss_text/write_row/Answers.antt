use Rattle.kernel_trace.proofs.LossLines.{row_written}
use Rattle.kernel_trace.proofs.loss_text.write_row.Goals as goal

pub returns : goal.returns
returns c =
    row_written c.args.set.now c.args.clock c.args.row.now _ _ _ _ _ _ _ _ _ _ c.in_ok-write_count.ensures c.in_ok-write_count-2.ensures
    c.in_ok-write_count-3.ensures c.in_ok-write_count-4.ensures c.in_ok-write_count-5.ensures c.in_ok-extend_from_slice.ensures.items
    c.in_ok-write_moment.ensures c.in_ok-extend_from_slice-2.ensures.items c.in_ok-write_rival.ensures
