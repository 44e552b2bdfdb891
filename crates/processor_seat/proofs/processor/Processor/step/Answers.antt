use Rattle.std.proofs.Common.{ap, refl, inl, sym, subst, ◌∙◌, ◌≡◌, ◌≢◌, ◌++◌, ◌∷◌, [], List, Option, None, Some, false, inr}
use Rattle.task_set.specs.declared.order.Order.{Order}
use Rattle.task_set.specs.declared.order.Order.TheVariants.{Stop}
use Rattle.task_set.specs.Orders.{has_stop}
use Rattle.order_queues.specs.Ends.{Receives}
use Rattle.processor_seat.specs.Obeying.{orders_obeyed}
use Rattle.processor_seat.specs.Stepping.{ProcessorData, IsInStep}
use Rattle.processor_seat.proofs.Orders.{stop_at_end, no_stop_more}
use Rattle.processor_seat.proofs.Steps.{plain, with_pending, tried, in_step_none, in_step_pending, got_order}
use Rattle.processor_seat.proofs.processor.Processor.step.Goals as goal

pub invariant_of-self-then-is_stop : goal.invariant_of-self-then-is_stop
invariant_of-self-then-is_stop g c =
    let got = got_order c.self.inside.receiver c.next.new.self c.next.result c.in-Some-next.order c.in-Some-next.is c.next.ensures in
    let stop : c.in-Some-next.order ≡ Stop = c.is_stop.ensures.stop c.if-is_stop.true in
    let last : c.next.new.self.received ≡ c.self.inside.receiver.received ++ Stop ∷ [] = got.1
    ∙ ap (λ (o : Order). c.self.inside.receiver.received ++ o ∷ []) stop in
    record {
      number = c.self.invariant.number;
      stopped = sym (ap has_stop last ∙ stop_at_end c.self.inside.receiver.received);
      obeyable = got.2;
      below = got.3;
      ended = c.self.invariant.ended;
    }

pub returns-then-is_stop-clause-in_step : goal.returns-then-is_stop-clause-in_step
returns-then-is_stop-clause-in_step g c =
    let got = got_order c.self.inside.receiver c.next.new.self c.next.result c.in-Some-next.order c.in-Some-next.is c.next.ensures in
    let stop : c.in-Some-next.order ≡ Stop = c.is_stop.ensures.stop c.if-is_stop.true in
    let last : c.next.new.self.received ≡ c.self.inside.receiver.received ++ Stop ∷ [] = got.1
    ∙ ap (λ (o : Order). c.self.inside.receiver.received ++ o ∷ []) stop in
    let view = c.self.view_is in
    let without : has_stop c.args.self.now.receiver.received ≡ false = ap (λ (p : ProcessorData). has_stop p.receiver.received) (sym view)
    ∙ sym c.self.invariant.stopped ∙ c.if-self.false in
    let nothing : c.args.self.now.pending ≡ None = ap (λ (p : ProcessorData). p.pending) (sym view) ∙ c.in-None.is in
    let all = ap (λ (p : ProcessorData). p.receiver.received) view ∙ plain c.args.self.now c.requires.in_step nothing without
    ∙ ap (λ (p : ProcessorData). orders_obeyed p.hand) (sym view) in
    in_step_pending c.self.inside.hand c.self.inside.pending c.next.new.self c.in-None.is
    (last ∙ ap (λ (l : List Order). l ++ Stop ∷ []) all)

pub returns-then-is_stop-clause-answer : goal.returns-then-is_stop-clause-answer
returns-then-is_stop-clause-answer g c =
    let got = got_order c.self.inside.receiver c.next.new.self c.next.result c.in-Some-next.order c.in-Some-next.is c.next.ensures in
    let stop : c.in-Some-next.order ≡ Stop = c.is_stop.ensures.stop c.if-is_stop.true in
    let last : c.next.new.self.received ≡ c.self.inside.receiver.received ++ Stop ∷ [] = got.1
    ∙ ap (λ (o : Order). c.self.inside.receiver.received ++ o ∷ []) stop in
    record {
      hand = ap (λ (p : ProcessorData). p.hand) c.self.view_is;
      received = ap has_stop last ∙ stop_at_end c.self.inside.receiver.received;
      fetched = inr (subst (λ (p : ProcessorData). Receives p.receiver (Some Stop) c.next.new.self) c.self.view_is
          (subst (λ (r : Option Order). Receives c.self.inside.receiver r c.next.new.self)
          (c.in-Some-next.is ∙ ap (λ (o : Order). Some o) stop) c.next.ensures));
    }

pub invariant_of-self-in-Some-next : goal.invariant_of-self-in-Some-next
invariant_of-self-in-Some-next g c =
    let got = got_order c.self.inside.receiver c.next.new.self c.next.result c.in-Some-next.order c.in-Some-next.is c.next.ensures in
    let other : c.in-Some-next.order ≢ Stop = c.is_stop.ensures.other c.if-is_stop.false in
    record {
      number = c.self.invariant.number;
      stopped =
          c.self.invariant.stopped ∙ sym (ap has_stop got.1 ∙ no_stop_more c.self.inside.receiver.received c.in-Some-next.order other);
      obeyable = got.2;
      below = got.3;
      ended = c.self.invariant.ended;
    }

pub attempt-requires-in-Some-next-clause-not_stopped : goal.attempt-requires-in-Some-next-clause-not_stopped
attempt-requires-in-Some-next-clause-not_stopped g c =
    let got = got_order c.self.inside.receiver c.next.new.self c.next.result c.in-Some-next.order c.in-Some-next.is c.next.ensures in
    let other : c.in-Some-next.order ≢ Stop = c.is_stop.ensures.other c.if-is_stop.false in
    ap has_stop got.1 ∙ no_stop_more c.self.inside.receiver.received c.in-Some-next.order other ∙ sym c.self.invariant.stopped
    ∙ c.if-self.false

pub attempt-requires-clause-not_stopped : goal.attempt-requires-clause-not_stopped
attempt-requires-clause-not_stopped g c =
    ap (λ (p : ProcessorData). has_stop p.receiver.received) (sym c.self.view_is) ∙ sym c.self.invariant.stopped ∙ c.if-self.false

pub attempt-requires-clause-received : goal.attempt-requires-clause-received
attempt-requires-clause-received g c =
    with_pending c.args.self.now c.in-Some.order c.requires.in_step (ap (λ (p : ProcessorData). p.pending) (sym c.self.view_is)
    ∙ c.in-Some.is)
    (ap (λ (p : ProcessorData). has_stop p.receiver.received) (sym c.self.view_is) ∙ sym c.self.invariant.stopped ∙ c.if-self.false)

pub returns-in-Some-clause-answer : goal.returns-in-Some-clause-answer
returns-in-Some-clause-answer g c =
    let pending = ap (λ (p : ProcessorData). p.pending) (sym c.self.view_is) ∙ c.in-Some.is in
    tried c.args.self.now c.args.self.now c.attempt.new.self c.in-Some.order c.attempt.result refl
    (λ stop. c.requires.in_step.pending (pending ∙ ap (λ (o : Order). Some o) stop)) (inl (pending, refl))
    c.attempt.ensures.receiver c.attempt.ensures.answer

pub attempt-requires-in-Some-next-clause-received : goal.attempt-requires-in-Some-next-clause-received
attempt-requires-in-Some-next-clause-received g c =
    let got = got_order c.self.inside.receiver c.next.new.self c.next.result c.in-Some-next.order c.in-Some-next.is c.next.ensures in
    let view = c.self.view_is in
    let without : has_stop c.args.self.now.receiver.received ≡ false = ap (λ (p : ProcessorData). has_stop p.receiver.received) (sym view)
    ∙ sym c.self.invariant.stopped ∙ c.if-self.false in
    let nothing : c.args.self.now.pending ≡ None = ap (λ (p : ProcessorData). p.pending) (sym view) ∙ c.in-None.is in
    let all = ap (λ (p : ProcessorData). p.receiver.received) view ∙ plain c.args.self.now c.requires.in_step nothing without
    ∙ ap (λ (p : ProcessorData). orders_obeyed p.hand) (sym view) in
    got.1 ∙ ap (λ (l : List Order). l ++ c.in-Some-next.order ∷ []) all

pub returns-after-order-clause-answer : goal.returns-after-order-clause-answer
returns-after-order-clause-answer g c =
    let view = c.self.view_is in
    tried c.args.self.now (record { hand = c.self.inside.hand; pending = c.self.inside.pending; receiver = c.next.new.self })
    c.attempt-in-Some-next.new.self c.in-Some-next.order c.attempt-in-Some-next.result
    (ap (λ (p : ProcessorData). p.hand) view) (c.is_stop.ensures.other c.if-is_stop.false)
    (inr (
      ap (λ (p : ProcessorData). p.pending) (sym view) ∙ c.in-None.is,
      subst (λ (p : ProcessorData). Receives p.receiver (Some c.in-Some-next.order) c.next.new.self) view c.in-Some-next.ensures,
    ))
    c.attempt-in-Some-next.ensures.receiver c.attempt-in-Some-next.ensures.answer

pub returns-in-None-next-clause-in_step : goal.returns-in-None-next-clause-in_step
returns-in-None-next-clause-in_step g c =
    in_step_none (record { hand = c.self.inside.hand; pending = c.self.inside.pending; receiver = c.self.inside.receiver }) c.next.new.self
    (subst IsInStep (sym c.self.view_is) c.requires.in_step) c.in-None-next.ensures.answer.1
