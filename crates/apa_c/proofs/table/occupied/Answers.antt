use Rattle.std.proofs.Common.{refl, arith}
use Rattle.std.proofs.lemmas.Grind.{common_steps}
use Rattle.affinity_mask.proofs.Sets.{has-zero}
use Rattle.apa_c.proofs.table.occupied.Goals as goal

-- nobody is on a processor of one that does not run
pub returns-in_default : goal.returns-in_default
returns-in_default c = (refl, λ p. grind (arith, common_steps, has-zero p, c.in_default.not-Running))
