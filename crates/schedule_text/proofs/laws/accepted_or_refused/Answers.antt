use Rattle.schedule_text.proofs.Texts as texts
use Rattle.schedule_text.proofs.laws.accepted_or_refused.Goals as goal

pub returns : goal.returns
returns c = texts.accepted_or_refused
