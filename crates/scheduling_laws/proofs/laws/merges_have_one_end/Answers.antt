use Rattle.scheduling_laws.proofs.Merges.{merges_have_one_end}
use Rattle.scheduling_laws.proofs.OneEnd.{same_events_have_one_end, callers_give_same_events}
use Rattle.scheduling_laws.proofs.laws.merges_have_one_end.Goals as goal

pub returns-clause-merges : goal.returns-clause-merges
returns-clause-merges c = merges_have_one_end

pub returns-clause-histories : goal.returns-clause-histories
returns-clause-histories c = same_events_have_one_end

pub returns-clause-callers : goal.returns-clause-callers
returns-clause-callers c = callers_give_same_events
