use Rattle.std.proofs.Common.{refl}
use Rattle.affinity_mask.proofs.Sets.{has-or, has-pow}
use Rattle.std.proofs.lemmas.Nat.{one_shl}
use Rattle.affinity_mask.proofs.proc_set.ProcSet.with.Goals as goal

pub returns : goal.returns
returns c = λ q. rw (has-or _ _ q, one_shl c.args.p 64 c.requires, has-pow c.args.p q, c.self.view_is) refl
