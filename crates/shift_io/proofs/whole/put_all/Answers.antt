use Rattle.std.proofs.Common.{le_trans, arith}
use Rattle.shift_io.proofs.Bytes.{appends_prefix}
use Rattle.shift_io.proofs.whole.put_all.Goals as goal

pub loop-done-preserved : goal.loop-done-preserved
loop-done-preserved g c =
    let so_far = c.loop-done.invariant in
    let one = c.in_ok-done.ensures in
    let more = appends_prefix _ _ _ c.args.bytes.now c.loop-done.done c.in_ok-done.field-0 so_far.bound so_far.put one.bytes.bound
    one.bytes.bytes in
    record {
      bound = more.0;
      put = more.1;
      later = le_trans so_far.later one.cause.later;
      calls = omega (arith, so_far.calls, one.one_call, one.bytes.some);
    }
