use Rattle.std.proofs.Common.{◌<◌, arith, refl}
use Rattle.std.proofs.lemmas.Nat.{one_shl}
use Rattle.affinity_mask.specs.ProcSet.{all_below}
use Rattle.affinity_mask.proofs.Sets.{has-all_below}
use Rattle.affinity_mask.proofs.proc_set.ProcSet.first.Goals as goal

pub returns-then-m-eq64-clause-value : goal.returns-then-m-eq64-clause-value
unfolding all_below
returns-then-m-eq64-clause-value c = rw (c.if-m-eq64.true) refl

pub returns-then-m-eq64-clause-contents : goal.returns-then-m-eq64-clause-contents
unfolding all_below
returns-then-m-eq64-clause-contents c = λ q. rw (c.if-m-eq64.true) (has-all_below 64 q)

pub returns-else-m-eq64-clause-value : goal.returns-else-m-eq64-clause-value
unfolding all_below
returns-else-m-eq64-clause-value c =
    let below : c.args.m < 64 = omega arith in rw (one_shl c.args.m 64 below) refl

pub returns-else-m-eq64-clause-contents : goal.returns-else-m-eq64-clause-contents
unfolding all_below
returns-else-m-eq64-clause-contents c = λ q.
    let below : c.args.m < 64 = omega arith in rw (one_shl c.args.m 64 below) (has-all_below c.args.m q)
