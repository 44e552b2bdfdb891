use Rattle.std.proofs.Common.{refl}
use Rattle.affinity_mask.proofs.Sets.{has-or}
use Rattle.affinity_mask.proofs.proc_set.ProcSet.either_of.Goals as goal

pub returns : goal.returns
returns c = λ q. rw (has-or _ _ q, c.self.view_is, c.other.view_is) refl
