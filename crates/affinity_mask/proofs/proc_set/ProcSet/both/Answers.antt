use Rattle.std.proofs.Common.{refl}
use Rattle.affinity_mask.specs.ProcSet.{intersection}
use Rattle.affinity_mask.proofs.Sets.{has-and}
use Rattle.affinity_mask.proofs.proc_set.ProcSet.both.Goals as goal

pub returns-clause-value : goal.returns-clause-value
unfolding intersection
returns-clause-value c = rw (c.self.view_is, c.other.view_is) refl

pub returns-clause-contents : goal.returns-clause-contents
returns-clause-contents c = λ q. rw (has-and _ _ q, c.self.view_is, c.other.view_is) refl
