use Rattle.weak_apa.proofs.OneText as once
use Rattle.weak_apa.proofs.laws.events_have_one_text.Goals as goal

pub returns : goal.returns
returns c = once.events_have_one_text
