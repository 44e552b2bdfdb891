use Rattle.std.proofs.Common.{◌≡◌, ◌∙◌, ◌<◌, ◌++◌, ◌∷◌, [], length, map, set, sym, ap, arith}
use Rattle.std.proofs.lemmas.List.{map_more, take_all}
use Rattle.order_queues.specs.Ends.{QueueData, SenderData, new_eye}
use Rattle.event_history.specs.Holdings.{queues_of}
use Rattle.event_history.proofs.Lists.{at_index, mapped_at, mapped_length, set_again}
use Rattle.event_history.proofs.eyes.Eyes.new.Goals as goal

pub index_mut-requires : goal.index_mut-requires
index_mut-requires c =
    let queues : c.args.queues.now ≡ queues_of c.loop-i.senders.items = sym c.requires ∙ ap queues_of (sym c.loop-i.invariant.senders) in
    omega (arith, c.loop-i-test.true, mapped_length (λ (s : SenderData). s.queue) c.loop-i.senders.items c.args.queues.now queues)

pub eye-eye-requires : goal.eye-eye-requires
eye-eye-requires c =
    let senders = c.loop-i.senders.items in
    let queues : c.args.queues.now ≡ queues_of senders = sym c.requires ∙ ap queues_of (sym c.loop-i.invariant.senders) in
    let many = mapped_length (λ (s : SenderData). s.queue) senders c.args.queues.now queues in
    let low : c.loop-i.i < length c.args.queues.now = omega (arith, c.loop-i-test.true) in
    let same : c.index_mut.result.now.queue ≡ c.index-queues-i.result = mapped_at (λ (s : SenderData). s.queue)
    senders c.args.queues.now c.loop-i.i c.index_mut.result.now c.index-queues-i.result queues
    (at_index senders c.loop-i.i c.index_mut.result.now (omega (arith, low, many)) c.index_mut.ensures.value)
    (at_index c.args.queues.now c.loop-i.i c.index-queues-i.result low c.index-queues-i.is) in
    record { queue = same }

pub loop-i-preserved : goal.loop-i-preserved
loop-i-preserved c =
    let i = c.loop-i.invariant in
    let senders = c.loop-i.senders.items in
    let queues : c.args.queues.now ≡ queues_of senders = sym c.requires ∙ ap queues_of (sym i.senders) in
    let many = mapped_length (λ (s : SenderData). s.queue) senders c.args.queues.now queues in
    let low : c.loop-i.i < length c.args.queues.now = omega (arith, c.loop-i-test.true) in
    let first : SenderData = c.index_mut.result.now in
    let q : QueueData = c.index-queues-i.result in
    let eye : c.eye-eye.result ≡ new_eye q = c.eye-eye.ensures.eye in
    record {
      senders = ap (λ (s : SenderData). set senders c.loop-i.i s) c.eye-eye.ensures.same
          ∙ set_again senders c.loop-i.i first (at_index senders c.loop-i.i first (omega (arith, low, many)) c.index_mut.ensures.value)
          ∙ i.senders;
      count = omega (arith, i.count, c.push_reserved.ensures.len);
      room = omega (arith, i.room, c.push_reserved.ensures.capacity);
      row = c.push_reserved.ensures.items
          ∙ (λ k. i.row k ++ (eye ∙ ap new_eye c.index-queues-i.is) k ∷ [])
          ∙ sym (map_more new_eye c.args.queues.now c.loop-i.i q low);
    }

pub returns-clause-eyes : goal.returns-clause-eyes
returns-clause-eyes c =
    let i = c.loop-i.invariant in
    i.row ∙ ap (map new_eye) (take_all c.loop-i.i c.args.queues.now (omega (arith, c.loop-i-test.false)))
