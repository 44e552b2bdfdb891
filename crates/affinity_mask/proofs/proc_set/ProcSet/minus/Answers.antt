use Rattle.std.proofs.Common.{◌<◌, ◌^◌, arith}
use Rattle.affinity_mask.proofs.Sets.{has-minus}
use Rattle.affinity_mask.proofs.proc_set.ProcSet.minus.Goals as goal

pub returns : goal.returns
returns c = λ q.
    let fits : c.self.inside.bits < 2 ^ 64 = omega arith in
    let other_fits : c.other.inside.bits < 2 ^ 64 = omega arith in
    rw (← c.self.view_is, ← c.other.view_is) (has-minus _ _ q fits other_fits)
