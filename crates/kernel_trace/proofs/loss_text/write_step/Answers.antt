use Rattle.kernel_trace.proofs.LossLines.{step_written}
use Rattle.kernel_trace.proofs.loss_text.write_step.Goals as goal

pub returns : goal.returns
returns c =
    step_written c.args.set.now c.args.step _ _ _ _ c.in_ok-write_name.ensures c.in_ok-write_count.ensures c.in_ok-push.ensures.items
