use Rattle.replay.proofs.NewParts.{new_unused}
use Rattle.replay.proofs.making.beginning_of.Goals as goal

pub returns-clause-unused : goal.returns-clause-unused
returns-clause-unused c = new_unused _ _ 0 c.in-Ok.made.1.items c.in-Ok.ensures.passes.1
