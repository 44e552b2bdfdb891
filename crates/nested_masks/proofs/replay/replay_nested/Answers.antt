use Rattle.nested_masks.proofs.replay.replay_nested.Goals as goal

pub returns-clause-laminar : goal.returns-clause-laminar
returns-clause-laminar c = rw c.set.ensures.value at c.in_ok-nested.ensures.laminar
