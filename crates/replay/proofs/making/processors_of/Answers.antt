use Rattle.std.proofs.Common.{arith, ◌≡◌, ◌+◌, ℕ, None, Some, List, [], ◌∷◌, length, length-append, slice_get, refl, sym, ap, ◌∙◌, subst}
use Rattle.std.proofs.lemmas.List.{length-map}
use Rattle.order_queues.specs.Ends.{ReceiverData, new_receiver}
use Rattle.context_slots.specs.Hands.{HandData}
use Rattle.processor_seat.specs.Stepping.{ProcessorData}
use Rattle.replay.specs.Places.{AllFrom}
use Rattle.replay.specs.Seats.{IsIdleAt}
use Rattle.replay.proofs.Places.{AllFrom-last, AllFrom-insert}
use Rattle.replay.proofs.NewParts.{IsNewHandAt, IsNewReceiverAt, new_hands, new_receivers}
use Rattle.replay.proofs.making.processors_of.Goals as goal

pub loop-hand-init : goal.loop-hand-init
loop-hand-init c =
    let queues = c.args.queues.now in
    let hands = c.requires.hands in
    let none : c.in_ok-processors.processors.items ≡ [] = c.in_ok-processors.ensures.items in
    record {
      count = omega (arith, hands.0, c.requires.one_each, ap length none);
      same = ap length c.requires.receivers ∙ length-map queues new_receiver ∙ c.requires.one_each ∙ sym hands.0;
      hands = new_hands c.args.slots.now 0 c.args.hands.items hands.1;
      receivers = new_receivers queues c.args.receivers.items c.requires.receivers;
      room = omega (arith, hands.0, c.requires.one_each, c.in_ok-processors.ensures.capacity, c.len.ensures, c.args.hands.ok.0);
      idle = subst (AllFrom (IsIdleAt queues c.args.slots.now) (length c.args.hands.items)) (sym none) tt;
    }

pub new-processor-requires-clause-hand : goal.new-processor-requires-clause-hand
new-processor-requires-clause-hand c =
    let P = IsNewHandAt c.args.slots.now in
    let last = AllFrom-last P 0 c.pop.new.self.items c.in-Some.hand
    (subst (AllFrom P 0) c.in-Some.ensures.items c.loop-hand.invariant.hands) in
    (ap (λ (h : HandData). h.holds) last.1, ap (λ (h : HandData). h.ended) last.1)

pub new-processor-requires-clause-receiver : goal.new-processor-requires-clause-receiver
new-processor-requires-clause-receiver c =
    let P = IsNewReceiverAt c.args.queues.now in
    (AllFrom-last P 0 c.pop-in-Some.new.self.items c.in-Some-pop.receiver
    (subst (AllFrom P 0) c.in-Some-pop.ensures.items c.loop-hand.invariant.receivers)).1.received

pub loop-hand-preserved : goal.loop-hand-preserved
loop-hand-preserved c =
    let queues = c.args.queues.now in
    let slots = c.args.slots.now in
    let i = c.loop-hand.invariant in
    let left : List HandData = c.pop.new.self.items in
    let others : List ReceiverData = c.pop-in-Some.new.self.items in
    let hand : HandData = c.in-Some.hand in
    let receiver : ReceiverData = c.in-Some-pop.receiver in
    let hands = AllFrom-last (IsNewHandAt slots) 0 left hand (subst (AllFrom (IsNewHandAt slots) 0) c.in-Some.ensures.items i.hands) in
    let receivers = AllFrom-last (IsNewReceiverAt queues) 0 others receiver
    (subst (AllFrom (IsNewReceiverAt queues) 0) c.in-Some-pop.ensures.items i.receivers) in
    let fewer : length c.loop-hand.hands.items ≡ length left
    + 1 = omega (arith, ap length c.in-Some.ensures.items, length-append left (hand ∷ [])) in
    let same : length others ≡ length left = omega (
      arith,
      i.same,
      fewer,
      ap length c.in-Some-pop.ensures.items,
      length-append others (receiver ∷ []),
    ) in
    let place : 0 + length others ≡ length left = omega arith in
    let zero : 0 + length left ≡ length left = omega arith in
    let idle : IsIdleAt queues slots (length left) (record { hand = hand; pending = None; receiver = receiver }) = record {
      number = ap (λ (h : HandData). h.number) hands.1 ∙ zero;
      of_slots = ap (λ (h : HandData). h.slots) hands.1;
      of_queue = subst (λ (n : ℕ). slice_get queues n ≡ Some receiver.queue) place receivers.1.of_queue;
      holds = ap (λ (h : HandData). h.holds) hands.1;
      ended = ap (λ (h : HandData). h.ended) hands.1;
      received = receivers.1.received;
      pending = refl;
    } in
    record {
      count = omega (arith, i.count, fewer, ap length c.in_default-insert.ensures.items);
      same = same;
      hands = hands.0;
      receivers = receivers.0;
      room = omega (arith, i.room, c.in_default-insert.ensures.capacity);
      idle = AllFrom-insert (IsIdleAt queues slots) (length left) (length c.loop-hand.hands.items)
          c.new-processor.result c.loop-hand.processors.items c.insert.new.self.items c.in_default-insert.ensures.items fewer
          (subst (λ (p : ProcessorData). IsIdleAt queues slots (length left) p) (sym c.new-processor.ensures.parts) idle) i.idle;
    }
