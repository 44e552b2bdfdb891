use Rattle.scheduling_laws.proofs.Sustained.{wider_mask_keeps_up, wider_mask_finishes_no_later}
use Rattle.scheduling_laws.proofs.laws.wider_mask_finishes_no_later.Goals as goal

pub returns-clause-done : goal.returns-clause-done
returns-clause-done c = wider_mask_keeps_up

pub returns-clause-finish : goal.returns-clause-finish
returns-clause-finish c = wider_mask_finishes_no_later
