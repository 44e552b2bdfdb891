use Rattle.scheduling_laws.proofs.Hall as hall
use Rattle.scheduling_laws.proofs.laws.placeable_is_uncrowded.Goals as goal

pub returns-clause-hall : goal.returns-clause-hall
returns-clause-hall c = hall.placeable_is_uncrowded

pub returns-clause-reason : goal.returns-clause-reason
returns-clause-reason c = hall.placeable_or_crowded
