use Rattle.std.proofs.Common.{refl}
use Rattle.affinity_mask.proofs.Sets.{has-pow}
use Rattle.std.proofs.lemmas.Nat.{one_shl}
use Rattle.affinity_mask.proofs.proc_set.ProcSet.one.Goals as goal

pub returns : goal.returns
returns c = λ q. rw (one_shl c.args.p 64 c.requires, has-pow c.args.p q) refl
