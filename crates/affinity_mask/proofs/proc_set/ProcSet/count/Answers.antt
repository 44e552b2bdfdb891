use Rattle.std.proofs.Common.{◌<◌, ◌^◌, arith}
use Rattle.affinity_mask.proofs.Sets.{within-all_below}
use Rattle.affinity_mask.proofs.Words.{ones-members}
use Rattle.affinity_mask.proofs.proc_set.ProcSet.count.Goals as goal

pub returns-clause-value : goal.returns-clause-value
returns-clause-value c =
    let fits : c.self.inside.bits < 2 ^ 64 = omega arith in
    rw (← c.self.view_is) (ones-members _ fits)

pub returns-clause-valid : goal.returns-clause-valid
returns-clause-valid c =
    let fits : c.self.inside.bits < 2 ^ 64 = omega arith in
    rw (← c.self.view_is) (within-all_below _ 64 fits)
