use Rattle.reach_certificate.proofs.Defects.{passing_has_no_defect}
use Rattle.reach_certificate.proofs.laws.passing_has_no_defect.Goals as goal

pub returns : goal.returns
returns c = passing_has_no_defect
