use Rattle.strong_apa.proofs.SameTasks as same
use Rattle.strong_apa.proofs.laws.reply_keeps_masks.Goals as goal

pub returns : goal.returns
returns c = same.reply_keeps_masks
