use Rattle.schedule_text.proofs.Texts as texts
use Rattle.schedule_text.proofs.laws.schedule_has_no_fault.Goals as goal

pub returns : goal.returns
returns c = texts.schedule_has_no_fault
