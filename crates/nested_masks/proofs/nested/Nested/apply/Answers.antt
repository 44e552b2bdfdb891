use Rattle.nested_masks.proofs.NestedSteps.{laminar_certifies, step_keeps, step_names}
use Rattle.nested_masks.proofs.nested.Nested.apply.Goals as goal

pub returns-clause-certified : goal.returns-clause-certified
returns-clause-certified c = laminar_certifies c.args.self.now c.len-before.ensures.valid c.args.event c.step-reply.result
    c.step-reply.new.self c.len-after.ensures.valid c.step-reply.ensures

pub returns-clause-same : goal.returns-clause-same
returns-clause-same c = step_keeps c.args.self.now c.args.event c.step-reply.result c.step-reply.new.self c.step-reply.ensures

pub returns-clause-names : goal.returns-clause-names
returns-clause-names c =
    step_names c.args.self.now c.len-before.ensures.valid c.args.event c.step-reply.result c.step-reply.new.self c.step-reply.ensures
