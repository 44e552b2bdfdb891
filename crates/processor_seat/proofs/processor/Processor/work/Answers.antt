use Rattle.std.proofs.Common.{subst}
use Rattle.processor_seat.specs.Stepping.{StepAnswer}
use Rattle.processor_seat.specs.declared.answer.Step.{Step}
use Rattle.processor_seat.proofs.Steps.{at_stop}
use Rattle.processor_seat.proofs.processor.Processor.work.Goals as goal

pub returns-in-Stopped-clause-stopped : goal.returns-in-Stopped-clause-stopped
returns-in-Stopped-clause-stopped g c =
    (subst (λ (step : Step). StepAnswer c.loop.self step c.step.new.self) c.in-Stopped.is c.step.ensures.answer).received

pub returns-in-Stopped-clause-obeyed : goal.returns-in-Stopped-clause-obeyed
returns-in-Stopped-clause-obeyed g c =
    at_stop c.step.new.self c.step.ensures.in_step
    (subst (λ (step : Step). StepAnswer c.loop.self step c.step.new.self) c.in-Stopped.is c.step.ensures.answer).received
