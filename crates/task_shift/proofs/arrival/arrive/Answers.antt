use Rattle.std.proofs.Common.{sym, ◌∙◌, inr}
use Rattle.task_shift.proofs.arrival.arrive.Goals as goal

pub returns-clause-step : goal.returns-clause-step
returns-clause-step c = inr record {
  absent = sym c.is_ready.ensures.value ∙ c.if-is_ready.false;
  came = c.come.result;
  answer = c.into.ensures;
  comes = c.come.ensures.comes;
}
