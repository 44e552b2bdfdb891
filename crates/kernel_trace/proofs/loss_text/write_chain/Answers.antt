use Rattle.kernel_trace.proofs.LossLines.{chain_written}
use Rattle.kernel_trace.proofs.loss_text.write_chain.Goals as goal

pub returns : goal.returns
returns c =
    chain_written c.args.set.now c.args.clock c.args.chain.now.count c.args.chain.now.first c.args.chain.now.steps.items _ _ _ _ _
    c.in_ok-extend_from_slice.ensures.items c.in_ok-write_moment.ensures c.in_ok-push.ensures.items
    (rw c.deref.ensures.value at c.in_ok-write_steps.ensures)
