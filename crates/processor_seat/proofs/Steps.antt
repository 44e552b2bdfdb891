-- What was received, step by step.
use Rattle.std.proofs.Common.{◌≡◌, ◌≢◌, ℕ, Bool, true, false, true≢false, inl, inr, Option, None, Some, option_to_list, List, [], ◌∷◌, ◌++◌}
use Rattle.std.proofs.Common.{refl, sym, ap, subst, ◌∙◌, append_assoc, append-nil}
use Rattle.std.specs.List.{flat_map}
use Rattle.task_set.specs.declared.order.Order.{Order}
use Rattle.task_set.specs.declared.order.Order.TheVariants.{Stop}
use Rattle.task_set.specs.Orders.{IsObeyable, NamesTaskBelow, has_stop, stint_orders, stints_in}
use Rattle.std.specs.Prelude.{All}
use Rattle.order_queues.specs.Ends.{QueueData, ReceiverData, Receives}
use Rattle.context_slots.specs.Hands.{HandData}
use Rattle.processor_seat.specs.Obeying.{orders_under_way, orders_obeyed, Obeys, IsMissed}
use Rattle.processor_seat.specs.Stepping.{ProcessorData, IsInStep, IsFinished, IsFetched, StepAnswer, TryAnswer, stop_if}
use Rattle.processor_seat.specs.declared.answer.Step.{Step}
use Rattle.processor_seat.specs.declared.answer.Step.TheVariants.{Did, Empty, NotTurn, Stopped}
use Rattle.processor_seat.specs.ProcessorParts.{AllOn}
use Rattle.processor_seat.proofs.Orders.{stop_at_end, free_at_stop, stints_read}

abbrev seat : HandData → Option Order → ReceiverData → ProcessorData
seat hand pending receiver = record { hand = hand; pending = pending; receiver = receiver }

some_stop : None ≢ Some Stop
some_stop e = absurd (cc e)

-- where nothing is pending and Stop was not received, what was received is what was obeyed
pub plain : (p : ProcessorData) → IsInStep p → p.pending ≡ None → has_stop p.receiver.received ≡ false
    → p.receiver.received ≡ orders_obeyed p.hand
plain p step nothing without =
    step.received
    ∙ ap (λ (o : Option Order). orders_obeyed p.hand ++ (option_to_list o ++ stop_if (has_stop p.receiver.received))) nothing
    ∙ ap (λ (b : Bool). orders_obeyed p.hand ++ stop_if b) without
    ∙ append-nil (orders_obeyed p.hand)

-- and where an order is pending, it is the last one
pub with_pending : (p : ProcessorData) (order : Order) → IsInStep p → p.pending ≡ Some order → has_stop p.receiver.received ≡ false
    → p.receiver.received ≡ orders_obeyed p.hand ++ order ∷ []
with_pending p order step is without =
    step.received
    ∙ ap (λ (o : Option Order). orders_obeyed p.hand ++ (option_to_list o ++ stop_if (has_stop p.receiver.received))) is
    ∙ ap (λ (b : Bool). orders_obeyed p.hand ++ (order ∷ stop_if b)) without

pub in_step_done : (hand : HandData) (receiver : ReceiverData) → receiver.received ≡ orders_obeyed hand → has_stop receiver.received ≡ false
    → IsInStep (seat hand None receiver)
in_step_done hand receiver is without = record {
  received = is ∙ sym (append-nil (orders_obeyed hand)) ∙ ap (λ (b : Bool). orders_obeyed hand ++ stop_if b) (sym without);
  stopped = λ with_stop. absurd (true≢false (sym with_stop ∙ without));
  pending = some_stop;
}

pub in_step_stop : (hand : HandData) (receiver : ReceiverData) → receiver.received ≡ orders_obeyed hand ++ Stop ∷ []
    → IsInStep (seat hand None receiver)
in_step_stop hand receiver is = record {
  received = is ∙ ap (λ (b : Bool). orders_obeyed hand ++ stop_if b) (sym (ap has_stop is ∙ stop_at_end (orders_obeyed hand)));
  stopped = λ _. refl;
  pending = some_stop;
}

-- after Stop, what was received is what was obeyed, then Stop
pub at_stop : (p : ProcessorData) → IsInStep p → has_stop p.receiver.received ≡ true → p.receiver.received ≡ orders_obeyed p.hand ++ Stop
    ∷ []
at_stop p step with_stop =
    step.received
    ∙ ap (λ (o : Option Order). orders_obeyed p.hand ++ (option_to_list o ++ stop_if (has_stop p.receiver.received)))
    (step.stopped with_stop)
    ∙ ap (λ (b : Bool). orders_obeyed p.hand ++ stop_if b) with_stop

-- what a try of the order that came last answers, a step that fetched the order answers
pub tried : (old mid new : ProcessorData) (order : Order) (step : Step) → mid.hand ≡ old.hand → order ≢ Stop
    → IsFetched old order mid.receiver → new.receiver ≡ mid.receiver → TryAnswer mid order step new → StepAnswer old step new
tried old mid new order (Did done) same other fetched kept answer = record {
  order_is = λ is. other (sym answer.0 ∙ is);
  fetched = subst (λ (o : Order). IsFetched old o new.receiver) (sym answer.0)
      (subst (λ (r : ReceiverData). IsFetched old order r) (sym kept) fetched);
  obeyed = subst (λ (o : Order). Obeys o old.hand new.hand) (sym answer.0)
      (subst (λ (h : HandData). Obeys order h new.hand) same answer.1);
  pending = answer.2;
}
tried old mid new order Empty same other fetched kept answer = absurd answer
tried old mid new order (NotTurn task found) same other fetched kept answer = record {
  order = order;
  fetched = subst (λ (r : ReceiverData). IsFetched old order r) (sym kept) fetched;
  missed = subst (λ (h : HandData). IsMissed order task found h new.hand) same answer.0;
  pending = answer.1;
}
tried old mid new order Stopped same other fetched kept answer = absurd answer

-- a look that found nothing leaves the processor in step
pub in_step_none : (p : ProcessorData) (receiver : ReceiverData) → IsInStep p → receiver.received ≡ p.receiver.received
    → IsInStep (seat p.hand p.pending receiver)
in_step_none p receiver step same = record {
  received = same ∙ step.received
      ∙ ap (λ (l : List Order). orders_obeyed p.hand ++ (option_to_list p.pending ++ stop_if (has_stop l))) (sym same);
  stopped = λ with_stop. step.stopped (ap has_stop (sym same) ∙ with_stop);
  pending = step.pending;
}

-- a processor that has finished holds nothing
pub finished_free : (p : ProcessorData) → IsObeyable p.receiver.received → IsFinished p → p.hand.holds ≡ None
finished_free p obeyable (inl h) = free_at_stop p.hand (subst IsObeyable (at_stop p h.0 h.1) obeyable)
finished_free p obeyable (inr h) = h.1

-- its stints are those of the orders that it obeyed
pub stints_obeyed : (hand : HandData) → AllOn hand.number hand.ended → hand.holds ≡ None
    → hand.ended ≡ stints_in hand.number (orders_obeyed hand)
stints_obeyed hand on free =
    sym (stints_read hand.number hand.ended [] on refl)
    ∙ ap (λ (under : List Order). stints_in hand.number (flat_map stint_orders hand.ended ++ under)) (ap orders_under_way (sym free))

stints-stop : (hand : HandData) → AllOn hand.number hand.ended → hand.holds ≡ None
    → hand.ended ≡ stints_in hand.number (orders_obeyed hand ++ Stop ∷ [])
stints-stop hand on free =
    sym (stints_read hand.number hand.ended (Stop ∷ []) on refl)
    ∙ ap (stints_in hand.number) (sym (append_assoc (flat_map stint_orders hand.ended) [] (Stop ∷ [])))
    ∙ ap (λ (under : List Order). stints_in hand.number ((flat_map stint_orders hand.ended ++ under) ++ Stop ∷ []))
    (ap orders_under_way (sym free))

front_empty : (front rest : List Order) → [] ≡ front ++ rest → front ≡ []
front_empty [] rest h = refl
front_empty (order ∷ front) rest h = absurd (cc h)

-- and those of the orders that it received, where it is in step
pub stints_received : (p : ProcessorData) → AllOn p.hand.number p.hand.ended → p.hand.holds ≡ None → IsFinished p → IsInStep p
    → p.hand.ended ≡ stints_in p.hand.number p.receiver.received
stints_received p on free (inl h) step = stints-stop p.hand on free ∙ ap (stints_in p.hand.number) (sym (at_stop p h.0 h.1))
stints_received p on free (inr h) step =
    stints_obeyed p.hand on free
    ∙ ap (stints_in p.hand.number) (front_empty (orders_obeyed p.hand) (option_to_list p.pending ++ stop_if (has_stop p.receiver.received))
    (sym h.0 ∙ step.received) ∙ sym h.0)

-- what is true of what lies in a processor is true of its view
pub finished_data : (P : ProcessorData → Type 0) (a b : ProcessorData) → a ≡ b → P a → P b
finished_data P a b is h = subst P is h

-- what `next` says of an order that it gave
pub got_order : (old new : ReceiverData) (result : Option Order) (order : Order) → result ≡ Some order → Receives old result new
    → (new.queue ≡ old.queue) × (new.received ≡ old.received ++ order ∷ []) × IsObeyable new.received
    × All (NamesTaskBelow new.queue.tasks) new.received
got_order old new result order is h =
    let answer = (subst (λ (r : Option Order). Receives old r new) is h).answer in (
      h.queue,
      answer.1,
      answer.2,
      subst (λ (n : ℕ). All (NamesTaskBelow n) new.received) (ap (λ (q : QueueData). q.tasks) (sym h.queue))
          answer.3,
    )

pub in_step_pending : (hand : HandData) (pending : Option Order) (receiver : ReceiverData) → pending ≡ None
    → receiver.received ≡ orders_obeyed hand ++ Stop ∷ [] → IsInStep (seat hand pending receiver)
in_step_pending hand pending receiver nothing is =
    subst (λ (o : Option Order). IsInStep (seat hand o receiver)) (sym nothing) (in_step_stop hand receiver is)
