use Rattle.kernel_trace.proofs.LossLines.{text_written}
use Rattle.kernel_trace.proofs.loss_text.write_losses.Goals as goal

pub returns : goal.returns
returns c =
    text_written c.args.set.now c.args.clock c.args.span c.args.rows.now c.args.end.now.chain.count
    c.args.end.now.chain.first c.args.end.now.chain.steps.items c.args.end.now.unlisted c.args.end.now.threads.items
    c.args.end.now.jumps _ _ _ _ _ c.new-text.ensures.items c.in_ok-write_span.ensures c.in_ok-write_rows.ensures
    c.in_ok-write_chain.ensures c.in_ok-write_end.ensures
