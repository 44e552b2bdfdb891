use Rattle.history_laws.proofs.CarriedThroughout as throughout
use Rattle.history_laws.proofs.order_laws.stints_are_takes.Goals as goal

pub returns-clause-from_start : goal.returns-clause-from_start
returns-clause-from_start c = throughout.stints_are_takes-from

pub returns-clause-of_set : goal.returns-clause-of_set
returns-clause-of_set c = throughout.stints_are_takes
