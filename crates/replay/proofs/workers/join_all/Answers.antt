use Rattle.std.proofs.Common.{arith, length, ap}
use Rattle.replay.specs.Seats.{HasStoppedAt}
use Rattle.replay.proofs.Places.{AllFrom-insert}
use Rattle.replay.proofs.workers.join_all.Goals as goal

pub loop-processor-preserved : goal.loop-processor-preserved
loop-processor-preserved g c =
    let i = c.loop-processor.invariant in
    let last = c.in-Some.ensures.last in
    record {
      count = omega (arith, i.count, last.0, ap length c.in_default-insert.ensures.items);
      crew = c.end_last.ensures.crew;
      room = omega (arith, i.room, c.in_default-insert.ensures.capacity);
      each = AllFrom-insert (HasStoppedAt c.args.shared.now.queues.now c.args.shared.now.slots.now) (length c.end_last.new.workers.items)
          (length c.loop-processor.workers.items) c.in-Some.processor c.loop-processor.processors.items c.insert.new.self.items
          c.in_default-insert.ensures.items last.0 last.1 i.each;
    }
