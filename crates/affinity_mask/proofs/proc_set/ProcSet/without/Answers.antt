use Rattle.std.proofs.Common.{◌<◌, ◌^◌, arith}
use Rattle.std.proofs.lemmas.Nat.{one_shl}
use Rattle.affinity_mask.proofs.Sets.{has-without}
use Rattle.affinity_mask.proofs.proc_set.ProcSet.without.Goals as goal

pub returns : goal.returns
returns c = λ q.
    let fits : c.self.inside.bits < 2 ^ 64 = omega arith in
    rw (one_shl c.args.p 64 c.requires, ← c.self.view_is) (has-without _ _ q fits c.requires)
