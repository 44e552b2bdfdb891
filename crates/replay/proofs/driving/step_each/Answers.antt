use Rattle.std.proofs.Common.{arith, ◌<◌, ℕ, List, length, length-set, sym, ◌∙◌, subst}
use Rattle.std.proofs.lemmas.List.Elements.{All-set}
use Rattle.processor_seat.specs.Stepping.{ProcessorData}
use Rattle.replay.specs.Driving.{IsDone, seat_of}
use Rattle.replay.specs.Seats.{IsSeated}
use Rattle.replay.proofs.Driven.{map_set_same, all_first}
use Rattle.replay.proofs.driving.step_each.Goals as goal

pub step_one-one-requires-clause-seated : goal.step_one-one-requires-clause-seated
step_one-one-requires-clause-seated g c =
    subst (IsSeated c.args.queues.now c.args.slots.now) (sym c.index_mut.ensures.value)
    (c.loop-i.invariant.seated c.loop-i.i c.index_mut.result.now (omega arith))

pub loop-i-preserved : goal.loop-i-preserved
loop-i-preserved g c =
    let queues = c.args.queues.now in
    let slots = c.args.slots.now in
    let i : ℕ = c.loop-i.i in
    let items : List ProcessorData = c.loop-i.processors.items in
    let low : i < length items = omega arith in
    let new : ProcessorData = c.step_one-one.new.processor in
    record {
      count = length-set items i new ∙ c.loop-i.invariant.count;
      same = map_set_same seat_of items i c.index_mut.result.now new low c.index_mut.ensures.value c.step_one-one.ensures.same
          ∙ c.loop-i.invariant.same;
      seated = All-set (IsSeated queues slots) items i new c.step_one-one.ensures.seated c.loop-i.invariant.seated;
      done = all_first (IsDone queues slots) items i new c.loop-i.stopped c.step_one-one.result low c.loop-i.invariant.done
          c.step_one-one.ensures.done;
    }
