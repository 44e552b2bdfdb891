use Rattle.std.proofs.Common.{ap, Err, inl}
use Rattle.task_set.proofs.Refusals.{CanAdd-IsRefusal, same_refusal}
use Rattle.task_set.proofs.set.TaskSet.add.Goals as goal

pub returns-in-Some-clause-refuses : goal.returns-in-Some-clause-refuses
returns-in-Some-clause-refuses c = λ fault due. inl (ap Err (same_refusal _ _ _ fault c.len-number.ensures.valid c.in-Some.ensures due))

pub returns-in-Some-clause-adds : goal.returns-in-Some-clause-adds
returns-in-Some-clause-adds c = λ can. absurd (CanAdd-IsRefusal _ _ _ can c.in-Some.ensures)

pub returns-clause-refuses : goal.returns-clause-refuses
returns-clause-refuses c = λ fault due. absurd (CanAdd-IsRefusal _ _ fault c.in_default.ensures due)
