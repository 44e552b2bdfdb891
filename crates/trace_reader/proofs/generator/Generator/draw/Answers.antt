use Rattle.std.proofs.Common.{◌≡◌, ◌+◌, ap, sym, ◌∙◌}
use Rattle.trace_reader.specs.Generator.{generator_step, generator_after, drawn_at}
use Rattle.trace_reader.proofs.Draws.{state_after_more}
use Rattle.trace_reader.proofs.generator.Generator.draw.Goals as goal

pub returns-clause-draws : goal.returns-clause-draws
returns-clause-draws c = λ number k at.
    let here : c.step.new.self.state ≡ generator_after number (k + 1) = c.step.ensures ∙ ap generator_step at
    ∙ sym (state_after_more number k) in
    record { gives = rw c.from.ensures (ap (λ state. drawn_at state c.args.bound) here); state = here }
