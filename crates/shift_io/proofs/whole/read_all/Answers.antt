use Rattle.std.proofs.Common.{arith, length-take}
use Rattle.shift_io.proofs.Bytes.{takes_more}
use Rattle.shift_io.proofs.whole.read_all.Goals as goal

pub returns-then-len-count-clause-too_long : goal.returns-then-len-count-clause-too_long
returns-then-len-count-clause-too_long g c _ =
    let one = c.in_ok-count.ensures.bytes in
    let all = takes_more _ _ _ c.pieces.bytes.items c.take.new.into c.in_ok-count.count c.pieces.invariant.taken one in
    (all.0, all.1, omega (arith, all.2, one.bound.0, length-take c.min-room.result c.pieces.piece))

pub returns-in_err-extend_from_slice-clause-out_of_memory : goal.returns-in_err-extend_from_slice-clause-out_of_memory
returns-in_err-extend_from_slice-clause-out_of_memory g c _ =
    let all = takes_more _ _ _ c.pieces.bytes.items c.take.new.into c.in_ok-count.count c.pieces.invariant.taken
    c.in_ok-count.ensures.bytes in
    (all.0, all.1, omega (arith, all.2))
