use Rattle.kernel_trace.proofs.LossLines.{thread_written}
use Rattle.kernel_trace.proofs.loss_text.write_thread.Goals as goal

pub returns : goal.returns
returns c = thread_written c.args.row _ _ _ _ c.in_ok-write_count.ensures c.in_ok-write_count-2.ensures c.in_ok-push.ensures.items
