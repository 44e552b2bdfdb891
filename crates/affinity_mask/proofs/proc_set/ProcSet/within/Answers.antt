use Rattle.std.proofs.Common.{◌^◌, ◌<◌, arith}
use Rattle.affinity_mask.proofs.proc_set.ProcSet.within.Goals as goal
use Rattle.affinity_mask.proofs.Sets.{within-and_not, and_not-within}

pub returns : goal.returns
returns c =
    let fits : c.self.inside.bits < 2 ^ 64 = omega arith in
    let other_fits : c.other.inside.bits < 2 ^ 64 = omega arith in
    rw (← c.self.view_is, ← c.other.view_is) (within-and_not _ _ fits other_fits, and_not-within _ _ fits other_fits)
