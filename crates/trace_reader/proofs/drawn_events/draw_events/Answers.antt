use Rattle.std.proofs.Common.{◌≡◌, List, Bool, length, arith, ap, sym, ◌∙◌}
use Rattle.trace_reader.specs.Generated.{events_of}
use Rattle.trace_reader.proofs.EventsDrawn.{given_back, one_more_drawn}
use Rattle.trace_reader.proofs.drawn_events.draw_events.Goals as goal

pub loop-preserved : goal.loop-preserved
loop-preserved c =
    let so_far = c.loop.invariant in
    let new : List Bool = c.draw_event-event.new.ready in
    let old : List Bool = c.loop.ready.items in
    let value : c.deref_mut.result.now ≡ old = c.deref_mut.ensures.value in
    let lent : length new ≡ length old = c.draw_event-event.auto.ready ∙ ap length value in
    let back = given_back new old c.loop.ready.len lent (sym c.deref_mut.ensures.len ∙ ap length value) in
    let room = so_far.0 in (
      omega (arith, room, c.push_reserved.ensures.capacity, c.push_reserved.ensures.len),
      rw back (lent ∙ so_far.1),
      λ number at.
          let begun = so_far.2 number at in
          rw (back, c.push_reserved.ensures.items)
          (one_more_drawn number c.args.tasks c.loop.counter c.loop.generator.state c.loop.events.items old new
          c.draw_event-event.new.generator.state c.draw_event-event.result begun
          (c.draw_event-event.ensures number (events_of c.loop.events.items) begun.at (rw value begun.table))),
    )
