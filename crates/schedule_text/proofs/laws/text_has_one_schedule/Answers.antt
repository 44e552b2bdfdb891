use Rattle.schedule_text.proofs.Texts as texts
use Rattle.schedule_text.proofs.laws.text_has_one_schedule.Goals as goal

pub returns : goal.returns
returns c = texts.text_has_one_schedule
