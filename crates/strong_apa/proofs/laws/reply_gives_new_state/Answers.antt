use Rattle.strong_apa.proofs.Steps as steps
use Rattle.strong_apa.proofs.laws.reply_gives_new_state.Goals as goal

pub returns : goal.returns
returns c = steps.reply_gives_new_state
