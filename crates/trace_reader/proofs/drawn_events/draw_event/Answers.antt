use Rattle.std.proofs.Common.{◌≡◌, ◌+◌, nat_eq, false, arith, ap, ◌∙◌, ne_eqb}
use Rattle.trace_reader.specs.Generator.{generator_after, drawn}
use Rattle.trace_reader.specs.Generated.{draws_before, event_of_task}
use Rattle.trace_reader.proofs.EventsDrawn.{draws_after}
use Rattle.trace_reader.proofs.drawn_events.draw_event.Goals as goal

pub returns : goal.returns
returns c = λ number earlier at table.
    let draws = draws_before c.args.tasks earlier in
    let kind = c.draw.ensures.draws number draws at in
    let of = c.draw-t.ensures.draws number (draws + 1) kind.state in
    let no_tick : nat_eq (drawn number draws 8) 0 ≡ false = rw (← kind.gives) (ne_eqb _ 0 c.if-draw-eq0.false) in
    record {
      event = rw no_tick (c.turn.ensures.event c.args.tasks earlier table ∙ ap (λ t. event_of_task t earlier) of.gives);
      table = c.turn.ensures.table c.args.tasks earlier table;
      state = of.state ∙ ap (generator_after number) (omega (arith, draws_after c.args.tasks earlier c.turn.result));
    }
