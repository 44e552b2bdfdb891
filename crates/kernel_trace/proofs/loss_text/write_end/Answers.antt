use Rattle.kernel_trace.proofs.LossLines.{end_written}
use Rattle.kernel_trace.proofs.loss_text.write_end.Goals as goal

pub returns : goal.returns
returns c =
    end_written c.args.end.now.unlisted c.args.end.now.threads.items c.args.end.now.jumps _ _ _ _ _ _ c.in_ok-write_count.ensures
    c.in_ok-push.ensures.items (rw c.deref.ensures.value at c.in_ok-write_threads.ensures)
    c.in_ok-write_count-2.ensures c.in_ok-extend_from_slice.ensures.items
