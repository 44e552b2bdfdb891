use Rattle.strong_apa.proofs.Touched as touched
use Rattle.strong_apa.proofs.passing_laws.passing_stays_outside.Goals as goal

pub returns : goal.returns
returns c = touched.passing_stays_outside
