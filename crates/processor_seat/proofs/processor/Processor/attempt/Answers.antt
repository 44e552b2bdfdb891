use Rattle.std.proofs.Common.{ap, sym, subst, ◌∙◌, ◌++◌, ◌∷◌, [], ℕ, length}
use Rattle.task_set.specs.Orders.{IsObeyable, NamesTaskBelow, has_stop}
use Rattle.std.specs.Prelude.{All, length}
use Rattle.processor_seat.specs.declared.answer.Obeyed.{Obeyed}
use Rattle.processor_seat.specs.Obeying.{orders_obeyed, ObeyAnswer}
use Rattle.processor_seat.specs.Stepping.{ProcessorData}
use Rattle.processor_seat.proofs.Orders.{may_come, last_below, not_stop, on_more, same_number, obeyed_more}
use Rattle.processor_seat.proofs.Steps.{in_step_done}
use Rattle.processor_seat.proofs.processor.Processor.attempt.Goals as goal

pub obey-requires-clause-below : goal.obey-requires-clause-below
obey-requires-clause-below c =
    let received = ap (λ (p : ProcessorData). p.receiver.received) c.self.view_is ∙ c.requires.received in
    let tasks = ap (λ (p : ProcessorData). p.receiver.queue.tasks) c.self.view_is ∙ c.requires.tasks in
    last_below (length c.args.slots.now.set.tasks) (orders_obeyed c.args.self.now.hand) c.args.order
    (subst (λ (n : ℕ). All (NamesTaskBelow n) (orders_obeyed c.args.self.now.hand ++ c.args.order ∷ [])) tasks
    (subst (All (NamesTaskBelow c.self.inside.receiver.queue.tasks)) received c.self.invariant.below))

pub obey-requires-clause-may : goal.obey-requires-clause-may
obey-requires-clause-may c =
    let received = ap (λ (p : ProcessorData). p.receiver.received) c.self.view_is ∙ c.requires.received in
    let hand = ap (λ (p : ProcessorData). orders_obeyed p.hand ++ c.args.order ∷ []) c.self.view_is in
    may_come c.self.inside.hand c.args.order (subst IsObeyable (received ∙ sym hand) c.self.invariant.obeyable)

pub obey-requires-clause-not_stop : goal.obey-requires-clause-not_stop
obey-requires-clause-not_stop c =
    not_stop c.args.self.now.receiver.received (orders_obeyed c.args.self.now.hand) c.args.order c.requires.received c.requires.not_stopped

pub invariant_of-self : goal.invariant_of-self
invariant_of-self c =
    let done = subst (λ (r : Obeyed). ObeyAnswer c.args.order c.self.inside.hand r c.obey.new.self) c.in-Done.is c.obey.ensures in
    record {
      number = c.self.invariant.number ∙ sym (same_number c.args.order c.self.inside.hand c.obey.new.self done);
      stopped = c.self.invariant.stopped;
      obeyable = c.self.invariant.obeyable;
      below = c.self.invariant.below;
      ended = on_more c.args.order c.self.inside.hand c.obey.new.self done c.self.invariant.ended;
    }

pub returns-in-Done-clause-in_step : goal.returns-in-Done-clause-in_step
returns-in-Done-clause-in_step c =
    let done = subst (λ (r : Obeyed). ObeyAnswer c.args.order c.self.inside.hand r c.obey.new.self) c.in-Done.is c.obey.ensures in
    let received = ap (λ (p : ProcessorData). p.receiver.received) c.self.view_is ∙ c.requires.received in
    let hand = ap (λ (p : ProcessorData). orders_obeyed p.hand ++ c.args.order ∷ []) c.self.view_is in
    let may = may_come c.self.inside.hand c.args.order (subst IsObeyable (received ∙ sym hand) c.self.invariant.obeyable) in
    in_step_done c.obey.new.self c.self.inside.receiver
    (received ∙ sym hand ∙ sym (obeyed_more c.args.order c.self.inside.hand c.obey.new.self may done))
    (ap (λ (p : ProcessorData). has_stop p.receiver.received) c.self.view_is ∙ c.requires.not_stopped)

pub returns-in-NotTurn-clause-below : goal.returns-in-NotTurn-clause-below
returns-in-NotTurn-clause-below c =
    let missed = subst (λ (r : Obeyed). ObeyAnswer c.args.order c.self.inside.hand r c.obey.new.self) c.in-NotTurn.is c.obey.ensures in
    let received = ap (λ (p : ProcessorData). p.receiver.received) c.self.view_is ∙ c.requires.received in
    let tasks = ap (λ (p : ProcessorData). p.receiver.queue.tasks) c.self.view_is ∙ c.requires.tasks in
    let below = last_below (length c.args.slots.now.set.tasks) (orders_obeyed c.args.self.now.hand) c.args.order
    (subst (λ (n : ℕ). All (NamesTaskBelow n) (orders_obeyed c.args.self.now.hand ++ c.args.order ∷ [])) tasks
    (subst (All (NamesTaskBelow c.self.inside.receiver.queue.tasks)) received c.self.invariant.below)) in
    subst (NamesTaskBelow (length c.args.slots.now.set.tasks)) missed.1 below
