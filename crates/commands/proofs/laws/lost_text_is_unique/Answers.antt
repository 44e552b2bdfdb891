use Rattle.commands.proofs.TraceOneText as once
use Rattle.commands.proofs.laws.lost_text_is_unique.Goals as goal

pub returns : goal.returns
returns c = once.lost_text_is_unique
