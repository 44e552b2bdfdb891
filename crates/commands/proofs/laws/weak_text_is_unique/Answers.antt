use Rattle.commands.proofs.WeakOneText as once
use Rattle.commands.proofs.laws.weak_text_is_unique.Goals as goal

pub returns : goal.returns
returns c = once.weak_text_is_unique
