use Rattle.reach_certificate.proofs.Defects.{defect_is_unique}
use Rattle.reach_certificate.proofs.laws.defect_is_unique.Goals as goal

pub returns : goal.returns
returns c = defect_is_unique
