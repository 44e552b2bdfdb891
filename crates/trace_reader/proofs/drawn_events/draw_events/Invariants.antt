use Rattle.std.proofs.Common.{◌≡◌, ℕ, ◌+◌, ◌*◌, ◌≤◌, length}
use Rattle.std.specs.Prelude.{vec_capacity}
use Rattle.trace_reader.specs.Generator.{generator_after}
use Rattle.trace_reader.proofs.EventsDrawn.{HasDrawn}
use Rattle.trace_reader.proofs.drawn_events.draw_events.Given as goal

abbrev pub invariant-loop : goal.invariant-loop
invariant-loop l = (length l.events.items + l.count ≤ vec_capacity l.events + l.counter) × (length l.ready.items ≡ l.tasks)
    × ((number : ℕ) → l.fn.generator.state ≡ generator_after number (3 * l.tasks)
    → HasDrawn number l.tasks l.counter l.generator.state l.events.items l.ready.items)
