use Rattle.reach_certificate.proofs.Judgements.{passes_or_has_defect}
use Rattle.reach_certificate.proofs.laws.passes_or_has_defect.Goals as goal

pub returns : goal.returns
returns c = passes_or_has_defect
