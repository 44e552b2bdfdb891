use Rattle.std.proofs.Common.{refl}
use Rattle.affinity_mask.proofs.Sets.{has-shift}
use Rattle.affinity_mask.proofs.proc_set.ProcSet.has.Goals as goal

pub returns : goal.returns
returns c = rw (has-shift c.self.inside.bits c.args.p, c.self.view_is) refl
