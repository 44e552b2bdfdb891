use Rattle.std.proofs.Common.{arith, ◌≡◌, ◌+◌, ℕ, List, [], ◌∷◌, length, length-append, map, slice_get, sym, ap, ◌∙◌, subst}
use Rattle.std.proofs.lemmas.List.{length-map}
use Rattle.order_queues.specs.Ends.{QueueData, SenderData}
use Rattle.processor_seat.specs.Stepping.{ProcessorData}
use Rattle.replay.specs.Places.{AllFrom}
use Rattle.replay.specs.Replayed.{HasAllStints}
use Rattle.replay.specs.Seats.{HasStoppedAt}
use Rattle.replay.proofs.Ending.{receiver_queue, receivers_are}
use Rattle.replay.proofs.Places.{AllFrom-last, AllFrom-insert, at_front, at_last, map_front}
use Rattle.replay.proofs.ends.end_all.Goals as goal

pub loop-processor-init : goal.loop-processor-init
loop-processor-init c = record {
  count = omega (arith, ap length c.requires.room.0);
  senders = c.requires.senders;
  receivers = receivers_are c.args.queues.items c.args.slots.now c.args.processors.items c.requires.one_each c.requires.stopped;
  sent = c.requires.sent;
  stopped = c.requires.stopped;
  room = omega (arith, c.requires.room.1, c.requires.one_each);
  each =
      subst (AllFrom (HasAllStints c.args.slots.now c.args.core.now.history) (length c.args.processors.items)) (sym c.requires.room.0) tt;
}

pub end_one-hand-requires-clause-sent : goal.end_one-hand-requires-clause-sent
end_one-hand-requires-clause-sent c =
    let i = c.loop-processor.invariant in
    let left : List ProcessorData = c.pop.new.self.items in
    let senders : List SenderData = c.pop-in-Some-2.new.self.items in
    let sender : SenderData = c.in-Some-Some.sender in
    let last = AllFrom-last (HasStoppedAt c.args.queues.items c.args.slots.now) 0 left c.in-Some.processor
    (subst (AllFrom (HasStoppedAt c.args.queues.items c.args.slots.now) 0) c.in-Some.ensures.items i.stopped) in
    let sent_count : length c.loop-processor.senders.items
    ≡ length c.loop-processor.queues.items = sym (length-map c.loop-processor.senders.items (λ (s : SenderData). s.queue))
    ∙ ap length i.senders in
    let received_count : length c.loop-processor.processors.items
    ≡ length c.loop-processor.queues.items = sym (length-map c.loop-processor.processors.items receiver_queue)
    ∙ ap length i.receivers in
    let place : length senders ≡ length left = omega (
      arith,
      sent_count,
      received_count,
      ap length c.in-Some.ensures.items,
      length-append left (c.in-Some.processor ∷ []),
      ap length c.in-Some-Some.ensures'.items,
      length-append senders (sender ∷ []),
    ) in
    let number : c.in-Some.processor.hand.number ≡ length senders = last.1.seated.number ∙ omega arith in
    i.sent c.in-Some.processor.hand.number sender
    (ap (λ (l : List SenderData). slice_get l c.in-Some.processor.hand.number) c.in-Some-Some.ensures'.items
    ∙ at_last senders sender c.in-Some.processor.hand.number number)

pub end_one-hand-requires-clause-slots : goal.end_one-hand-requires-clause-slots
end_one-hand-requires-clause-slots c =
    (AllFrom-last (HasStoppedAt c.args.queues.items c.args.slots.now) 0 c.pop.new.self.items c.in-Some.processor
    (subst (AllFrom (HasStoppedAt c.args.queues.items c.args.slots.now) 0)
    c.in-Some.ensures.items c.loop-processor.invariant.stopped)).1.seated.seated.of_slots

pub end_one-hand-requires-clause-in_step : goal.end_one-hand-requires-clause-in_step
end_one-hand-requires-clause-in_step c =
    (AllFrom-last (HasStoppedAt c.args.queues.items c.args.slots.now) 0 c.pop.new.self.items c.in-Some.processor
    (subst (AllFrom (HasStoppedAt c.args.queues.items c.args.slots.now) 0)
    c.in-Some.ensures.items c.loop-processor.invariant.stopped)).1.seated.seated.in_step

pub end_one-hand-requires-clause-stopped : goal.end_one-hand-requires-clause-stopped
end_one-hand-requires-clause-stopped c =
    (AllFrom-last (HasStoppedAt c.args.queues.items c.args.slots.now) 0 c.pop.new.self.items c.in-Some.processor
    (subst (AllFrom (HasStoppedAt c.args.queues.items c.args.slots.now) 0)
    c.in-Some.ensures.items c.loop-processor.invariant.stopped)).1.stopped

pub loop-processor-preserved : goal.loop-processor-preserved
loop-processor-preserved c =
    let i = c.loop-processor.invariant in
    let history = c.args.core.now.history in
    let left : List ProcessorData = c.pop.new.self.items in
    let queues : List QueueData = c.pop-in-Some.new.self.items in
    let senders : List SenderData = c.pop-in-Some-2.new.self.items in
    let queue : QueueData = c.in-Some-Some.queue in
    let sender : SenderData = c.in-Some-Some.sender in
    let last = AllFrom-last (HasStoppedAt c.args.queues.items c.args.slots.now) 0 left c.in-Some.processor
    (subst (AllFrom (HasStoppedAt c.args.queues.items c.args.slots.now) 0) c.in-Some.ensures.items i.stopped) in
    let number : c.in-Some.processor.hand.number ≡ length left = last.1.seated.number ∙ omega arith in
    let fewer : length c.loop-processor.processors.items ≡ length left
    + 1 = omega (arith, ap length c.in-Some.ensures.items, length-append left (c.in-Some.processor ∷ [])) in
    record {
      count = omega (arith, i.count, fewer, ap length c.in_default-insert.ensures.items);
      senders = map_front (λ (s : SenderData). s.queue) senders sender queues queue
          (ap (map (λ (s : SenderData). s.queue)) (sym c.in-Some-Some.ensures'.items) ∙ i.senders ∙ c.in-Some-Some.ensures.items);
      receivers = map_front receiver_queue left c.in-Some.processor queues queue (ap (map receiver_queue) (sym c.in-Some.ensures.items)
          ∙ i.receivers ∙ c.in-Some-Some.ensures.items);
      sent = λ p s at. i.sent p s (ap (λ (l : List SenderData). slice_get l p) c.in-Some-Some.ensures'.items
          ∙ at_front senders sender p s at);
      stopped = last.0;
      room = omega (arith, i.room, c.in_default-insert.ensures.capacity);
      each = AllFrom-insert (HasAllStints c.args.slots.now history) (length left) (length c.loop-processor.processors.items)
          c.end_one-hand.result c.loop-processor.hands.items c.insert.new.self.items c.in_default-insert.ensures.items fewer
          (subst (λ (n : ℕ). HasAllStints c.args.slots.now history n c.end_one-hand.result) number c.end_one-hand.ensures) i.each;
    }
