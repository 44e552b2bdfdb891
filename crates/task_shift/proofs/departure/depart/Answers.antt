use Rattle.std.proofs.Common.{refl, inl, inr}
use Rattle.task_shift.proofs.departure.depart.Goals as goal

pub returns-in-Some-clause-step : goal.returns-in-Some-clause-step
returns-in-Some-clause-step c =
    let leaves = c.in-Some.ensures.leaves in
    inr (inr record { place = leaves.0; linked = leaves.1; gone = c.in-Some.gone; answer = c.into.ensures; fills = leaves.2 })

pub returns-in-None-clause-step : goal.returns-in-None-clause-step
returns-in-None-clause-step c =
    let leaves = c.in-None.ensures.leaves in
    inr (inl record { waits = leaves.0; answer = refl; left = leaves.1 })
