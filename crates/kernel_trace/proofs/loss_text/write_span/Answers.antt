use Rattle.kernel_trace.proofs.LossLines.{span_written}
use Rattle.kernel_trace.proofs.loss_text.write_span.Goals as goal

pub returns : goal.returns
returns c =
    span_written c.args.clock c.args.span _ _ _ _ _ c.in_ok-write_count.ensures c.in_ok-extend_from_slice.ensures.items
    c.in_ok-write_stamp.ensures c.in_ok-push.ensures.items
