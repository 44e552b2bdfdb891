use Rattle.std.proofs.Common.{arith, ◌≡◌, ◌+◌, List, [], ◌∷◌, length, length-append, ap, ◌∙◌, subst}
use Rattle.processor_seat.specs.Stepping.{ProcessorData}
use Rattle.replay.specs.Crew.{IsCrew}
use Rattle.replay.specs.Places.{AllFrom}
use Rattle.replay.specs.Seats.{IsIdleAt, IsSeatedAt}
use Rattle.replay.proofs.Crews.{crew_thread_first, crew_left_first, crew_number}
use Rattle.replay.proofs.Places.{AllFrom-last}
use Rattle.replay.proofs.Results.{match_gives}
use Rattle.replay.proofs.Seating.{idle_seated}
use Rattle.replay.proofs.workers.start_all.Goals as goal

pub start-started-requires-clause-seat : goal.start-started-requires-clause-seat
start-started-requires-clause-seat g c κs within =
    let queues = c.args.shared.now.queues.now in
    let slots = c.args.shared.now.slots.now in
    let idle = AllFrom-last (IsIdleAt queues slots) 0 c.pop.new.self.items c.in-Some.processor
    (subst (AllFrom (IsIdleAt queues slots) 0) c.in-Some.ensures.items c.loop-processor.invariant.idle) in
    (idle_seated queues slots _ c.in-Some.processor idle.1).seated

pub loop-processor-preserved : goal.loop-processor-preserved
loop-processor-preserved g c =
    let queues = c.args.shared.now.queues.now in
    let slots = c.args.shared.now.slots.now in
    let i = c.loop-processor.invariant in
    let rest : List ProcessorData = c.pop.new.self.items in
    let idle = AllFrom-last (IsIdleAt queues slots) 0 rest c.in-Some.processor
    (subst (AllFrom (IsIdleAt queues slots) 0) c.in-Some.ensures.items i.idle) in
    let number : c.in-Some.processor.hand.number ≡ length rest = (idle_seated queues slots _ c.in-Some.processor idle.1).number
    ∙ omega arith in
    let fewer : length c.loop-processor.processors.items ≡ length rest
    + 1 = omega (arith, ap length c.in-Some.ensures.items, length-append rest (c.in-Some.processor ∷ [])) in
    let put = c.put_first.ensures in
    let workers = c.put_first.new.workers.items in
    let left = c.put_first.new.left.items in
    record {
      count = omega (arith, i.count, fewer, put.count.0);
      few = omega (arith, i.few, put.count.0, put.count.1);
      idle = idle.0;
      room = (omega (arith, i.room.0, put.room.0), omega (arith, i.room.1, put.room.1));
      crew = match_gives _ _ _ _ (IsCrew (λ n h. (h.promise.queues.now ≡ queues) × (h.promise.slots.now ≡ slots) × (h.promise.number ≡ n))
          (IsSeatedAt queues slots) (length rest) workers left) c.start-started.result c.start-started.ensures put.put
          (λ h at is. crew_thread_first _ _ (length rest) (length c.loop-processor.processors.items)
          h c.loop-processor.workers.items workers c.loop-processor.left.items left is.0 is.1 fewer (at.0, at.1, at.2 ∙ number) i.crew)
          (λ p at is. crew_left_first _ _ (length rest) (length c.loop-processor.processors.items)
          p c.loop-processor.workers.items workers c.loop-processor.left.items left is.0 is.1 fewer
          (record { seated = at.seated; number = at.number ∙ number }) i.crew);
    }

pub returns-clause-crew : goal.returns-clause-crew
returns-clause-crew g c =
    crew_number _ _ (length c.loop-processor.processors.items) 0 c.loop-processor.workers.items c.loop-processor.left.items
    (omega (arith, c.loop-processor.processors.ok.0, c.in_default.ensures.cases)) c.loop-processor.invariant.crew
