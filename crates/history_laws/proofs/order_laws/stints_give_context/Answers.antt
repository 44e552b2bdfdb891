use Rattle.history_laws.proofs.CarriedThroughout as throughout
use Rattle.history_laws.proofs.order_laws.stints_give_context.Goals as goal

pub returns-clause-from_start : goal.returns-clause-from_start
returns-clause-from_start c = throughout.stints_give_context-from

pub returns-clause-of_set : goal.returns-clause-of_set
returns-clause-of_set c = throughout.stints_give_context
