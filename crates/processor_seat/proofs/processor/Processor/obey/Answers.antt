use Rattle.std.proofs.Common.{ap, sym, subst, ◌∙◌, ◌++◌, ◌∷◌, []}
use Rattle.task_set.specs.Orders.{IsObeyable}
use Rattle.processor_seat.specs.Obeying.{orders_obeyed}
use Rattle.processor_seat.specs.Stepping.{ProcessorData}
use Rattle.processor_seat.proofs.Orders.{may_come, answer_number, answer_on}
use Rattle.processor_seat.proofs.processor.Processor.obey.Goals as goal

pub obey-requires-clause-may : goal.obey-requires-clause-may
obey-requires-clause-may c =
    let hand = ap (λ (p : ProcessorData). orders_obeyed p.hand ++ c.args.order ∷ []) c.self.view_is in
    may_come c.self.inside.hand c.args.order (subst IsObeyable (sym hand) c.requires.obeyable)

pub invariant_of-self : goal.invariant_of-self
invariant_of-self c = record {
  number = c.self.invariant.number ∙ sym (answer_number c.args.order c.self.inside.hand c.obey.result c.obey.new.self c.obey.ensures);
  stopped = c.self.invariant.stopped;
  obeyable = c.self.invariant.obeyable;
  below = c.self.invariant.below;
  ended = answer_on c.args.order c.self.inside.hand c.obey.result c.obey.new.self c.obey.ensures c.self.invariant.ended;
}
