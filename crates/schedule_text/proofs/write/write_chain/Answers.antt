use Rattle.std.proofs.Common.{arith, ◌<◌, length}
use Rattle.schedule_text.proofs.Written.{links_written}
use Rattle.schedule_text.proofs.write.write_chain.Goals as goal

pub loop-i-preserved : goal.loop-i-preserved
loop-i-preserved c =
    let within : c.loop-i.i < length c.args.chain.now = omega (arith, c.loop-i-test.true, c.len-i-end.ensures.value) in
    links_written c.args.chain.now c.loop-i.i c.at-in-loop-i.result _ _ _ c.loop-i.auto.i within
    c.at-in-loop-i.ensures.value c.loop-i.invariant c.in_ok-write_labelled_number.ensures
